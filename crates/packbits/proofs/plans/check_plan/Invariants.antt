-- `packbits::plans::check_plan` meets its contract: the first packet that breaks a rule decides, then the sum. Assumes nothing.
use Rattle.packbits.proofs.Planning.{Checked}
use Rattle.packbits.proofs.plans.check_plan.Given as goal

abbrev pub invariant-loop-k : goal.invariant-loop-k
invariant-loop-k l = Checked l.kinds l.lengths l.row l.at l.k
