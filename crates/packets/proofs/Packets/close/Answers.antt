-- `packets::Packets::close` meets its promise: the check, then whole rows. Assumes nothing.
use borrow.Author.Tests.{eq-eqb}
use mathlib.Core.Path.{◌≡◌, ap, ◌∙◌}
use mathlib.Core.Bool.{true, not}
use Rattle.answer.specs.Outcome.{here, next, none}
use Rattle.answer.proofs.Promised.{refusing, finishing}
use Rattle.packets.specs.State.{consistent}
use Rattle.packets.specs.Promises.{close_faults}
use Rattle.packets.proofs.Checking.{order_checked}
use Rattle.packets.proofs.Behind.{passed, sane_sound}
use Rattle.packets.proofs.Packets.close.Goals.{Else-not-passes}
use Rattle.packets.proofs.Packets.close.Goals as goal

passes : (c : Else-not-passes) → consistent c.args.self ≡ true
passes c = let st = c.args.self in order_checked st.plan st.received st.tail st.sums c.passes.ensures ∙ c.if-not-passes.false

pub returns-then-not-passes : goal.returns-then-not-passes
returns-then-not-passes c =
    let st = c.args.self in
    refusing (close_faults st) tt (here (ap not (order_checked st.plan st.received st.tail st.sums c.passes.ensures ∙ c.if-not-passes.true)))

pub nonzero_rem-self : goal.nonzero_rem-self
nonzero_rem-self c =
    (sane_sound c.args.self.plan (passed _ (passes (goal.at.nonzero_rem-self c).Else-not-passes)).sound).good.long

pub returns : goal.returns
returns c =
    finishing (close_faults c.args.self) tt (next (ap not (passes (goal.at.returns c).Else-not-passes)) (next (ap not (eq-eqb _ _ c.if-self-plan-ne0.false)) none))
