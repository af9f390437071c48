-- `packbits::plans::check_plan` meets its contract: the first packet that breaks a rule decides, then the sum. Assumes nothing.
use mathlib.Core.Path.{sym, ◌∙◌}
use Rattle.packbits.proofs.Planning.{checked_on}
use Rattle.packbits.proofs.plans.check_plan.Goals as goal

pub loop-k-preserved : goal.loop-k-preserved
loop-k-preserved c =
    checked_on _ _ c.requires c.loop-k.invariant c.loop-k-test.true (sym c.kept.ensures ∙ c.if-not-kept.false)
