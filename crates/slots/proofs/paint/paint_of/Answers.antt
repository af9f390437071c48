-- `slots::paint::paint_of` meets its contract: the invariant and its laws are in proofs/Painting.antt. Assumes nothing.
use native.Mathlib.Omega.{arith}
use Rattle.slots.proofs.Painting.{columns_more}
use Rattle.slots.proofs.paint.paint_of.Goals as goal

pub loop-x-preserved : goal.loop-x-preserved
loop-x-preserved g c =
    columns_more c.loop-x.invariant _ _ (omega (arith, c.loop-x-test.true)) c.index.ensures (rw c.colours-step.ensures at c.paint.ensures)
