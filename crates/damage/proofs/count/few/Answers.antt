-- `damage::count::few` meets its contract: the sum so far is the count of the marks passed, and so fits a byte. Assumes nothing.
use native.Mathlib.Omega.{arith}
use Rattle.damage.specs.Marks.{damaged}
use Rattle.damage.proofs.Loops.{counted-most}
use Rattle.damage.proofs.count.few.Goals as goal

pub overflow_add-sum : goal.overflow_add-sum
overflow_add-sum c =
    omega (arith, c.requires.0 c.loop-mark.mark-index, c.requires.1, c.loop-mark.invariant.1, counted-most c.loop-mark.mark-index (damaged c.args.marks.now), c.well_formed)
