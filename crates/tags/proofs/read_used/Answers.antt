-- `tags::read_used` meets its contract: the tags up to 262, then what is left. Assumes nothing.
use Rattle.answer.proofs.Promised.{first_more, refusing, sound_skip, step-first, step-sound}
use Rattle.answer.proofs.Handed.{handed_outcome}
use Rattle.tags.specs.Tags.{later_faults, said_faults}
use mathlib.Core.Path.{◌∙◌, sym}
use Rattle.tags.proofs.read_used.Goals as goal

pub returns-in_err-check_shape : goal.returns-in_err-check_shape
unfolding said_faults
returns-in_err-check_shape c =
    let args = c.args in
    handed_outcome _ _ c.from_residual.ensures ∙ refusing (said_faults args.file.now args.d) _ (first_more _ (step-first (rw c.read_shape-s.ensures at c.check_shape.ensures) c.in_err-check_shape.was))

pub returns : goal.returns
unfolding said_faults
returns c =
    let args = c.args in
    c.read_later.ensures ∙ sym (sound_skip (later_faults args.file.now args.d) _ (step-sound (rw c.read_shape-s.ensures at c.check_shape.ensures) c.in_ok-check_shape.was))
