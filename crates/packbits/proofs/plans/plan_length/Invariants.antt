-- `packbits::plans::plan_length` meets its contract: the first packet without room decides. Assumes nothing.
use Rattle.packbits.proofs.Planning.{Counted}
use Rattle.packbits.proofs.plans.plan_length.Given as goal

abbrev pub invariant-loop-k : goal.invariant-loop-k
invariant-loop-k l = Counted l.kinds l.lengths l.room l.n l.k
