-- `slots::paint::paint_of` meets its contract: the invariant and its laws are in proofs/Painting.antt. Assumes nothing.
use Rattle.slots.proofs.Painting.{Columns}
use Rattle.slots.proofs.paint.paint_of.Given as goal

abbrev pub invariant-loop-x : goal.invariant-loop-x
invariant-loop-x g l = Columns l.file l.first g.row.SLOTS l.raw l.initial.out l.x l.out
