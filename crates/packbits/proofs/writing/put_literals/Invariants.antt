-- `packbits::writing::put_literals` meets its contract: each literal goes where the one before it ended. Assumes nothing.
use Prim.Native.Nat.{◌-◌}
use lib.ListN.{length}
use Rattle.packbits.proofs.Putting.{PuttingPlain}
use Rattle.packbits.proofs.writing.put_literals.Given as goal

abbrev pub invariant-loop-at : goal.invariant-loop-at
invariant-loop-at l = PuttingPlain l.row l.initial.out l.at l.to l.out

abbrev pub decreases-loop-at : goal.decreases-loop-at
decreases-loop-at l = length l.row - l.at
