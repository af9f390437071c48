-- `files::file_length` meets its promise: it refuses as the check does, and past it answers the plan's length. Assumes nothing.
use mathlib.Core.Path.{ap, ◌∙◌}
use Rattle.answer.specs.Outcome.{done}
use Rattle.answer.proofs.Handed.{handed_outcome}
use Rattle.answer.proofs.Promised.{finishing, refusing, step-first, step-sound}
use Rattle.files.specs.declared.plan.Plan.{Plan}
use Rattle.files.specs.File.{asked_faults}
use Rattle.files.specs.Parts.{plan_of}
use Rattle.files.proofs.Asking.{asked}
use Rattle.files.proofs.file_length.Goals as goal

pub plan_of-p-requires : goal.plan_of-p-requires
unfolding plan_of
plan_of-p-requires c =
    let args = c.args in asked args.l args.rows_per_strip (step-sound c.check_asked.ensures c.in_ok-check_asked.was)

pub returns-in_err-check_asked : goal.returns-in_err-check_asked
unfolding plan_of
returns-in_err-check_asked c =
    handed_outcome _ _ c.from_residual.ensures ∙ refusing _ _ (step-first c.check_asked.ensures c.in_err-check_asked.was)

pub returns : goal.returns
unfolding plan_of
returns c =
    let args = c.args in
    ap done (ap (λ (p : Plan). p.length) c.plan_of-p.ensures) ∙ finishing (asked_faults args.l args.rows_per_strip) _ (step-sound c.check_asked.ensures c.in_ok-check_asked.was)
