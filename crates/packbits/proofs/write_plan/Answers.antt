-- `packbits::write_plan` meets its promise: it refuses for lists of unequal length, a rule that is broken or want of room, and past that writes. Assumes nothing.
use mathlib.Core.Path.{◌≡◌, refl, sym, ◌∙◌}
use mathlib.Core.Bool.{true}
use mathlib.Core.List.{List}
use lib.ListN.{length}
use Rattle.answer.specs.Outcome.{Fault, outcome}
use Rattle.answer.proofs.Promised.{refuses}
use Rattle.answer.proofs.Handed.{handed}
use Rattle.packbits.specs.Plans.{Planned, plan_of, keeps, plan_faults}
use Rattle.packbits.specs.Parts.{plan_length, room_faults}
use Rattle.packbits.proofs.Putting.{plan-first}
use Rattle.laws.proofs.Faults.{declined}
use Rattle.packbits.proofs.write_plan.Goals as goal

pub returns-in_err-n : goal.returns-in_err-n
returns-in_err-n c =
    let plan : List Planned = plan_of c.args.kinds.now c.args.lengths.now in
    let faults : List Fault = plan_faults c.args.row.now c.args.kinds.now c.args.lengths.now c.args.out.now in
    let paired : length c.args.kinds.now ≡ length c.args.lengths.now = c.if-kinds-lengths.false in
    let kept : keeps c.args.row.now plan ≡ true = sym c.check_plan.ensures ∙ c.if-not-check_plan.false in
    rw (handed _ _ c.from_residual.ensures) (refuses faults _ _ _ (plan-first c.args.row.now c.args.kinds.now c.args.lengths.now c.args.out.now paired kept (declined outcome (room_faults (length c.args.out.now) plan) (plan_length plan) c.plan_length.ensures c.in_err-n.was refl)))
