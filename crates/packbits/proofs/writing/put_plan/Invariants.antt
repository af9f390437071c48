-- `packbits::writing::put_plan` meets its contract: each packet goes where the one before it ended. Assumes nothing.
use Rattle.packbits.proofs.Putting.{Putting}
use Rattle.packbits.proofs.writing.put_plan.Given as goal

abbrev pub invariant-loop-k : goal.invariant-loop-k
invariant-loop-k l = Putting l.kinds l.lengths l.row l.initial.out l.at l.to l.k l.out
