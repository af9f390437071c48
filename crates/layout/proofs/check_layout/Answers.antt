-- `layout::check_layout` meets its contract: the steps' refusal, or the record. Assumes nothing.
use mathlib.Core.Path.{ap, ◌∙◌}
use Rattle.answer.specs.Outcome.{done}
use Rattle.answer.proofs.Handed.{handed}
use Rattle.answer.proofs.Promised.{refusing, finishing, step-sound, step-first}
use Rattle.layout.specs.Layout.{layout_faults, completed}
use Rattle.layout.proofs.check_layout.Goals as goal

pub complete-requires : goal.complete-requires
complete-requires c =
    step-sound c.check_fields.ensures c.in_ok-check_fields.was

pub returns-in_err-check_fields : goal.returns-in_err-check_fields
returns-in_err-check_fields c =
    let f = c.args.f in
    rw (handed c.from_residual.result _ c.from_residual.ensures) (refusing (layout_faults f) (completed f) (step-first c.check_fields.ensures c.in_err-check_fields.was))

pub returns : goal.returns
returns c =
    let f = c.args.f in ap done c.complete.ensures ∙ finishing (layout_faults f) (completed f) (step-sound c.check_fields.ensures c.in_ok-check_fields.was)
