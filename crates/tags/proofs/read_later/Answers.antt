-- `tags::read_later` meets its contract: the tags past 262. Assumes nothing.
use Rattle.std.proofs.Common.{refl}
use Rattle.answer.proofs.Handed.{handed_outcome}
use Rattle.answer.proofs.Promised.{finishing, refusing, step-first, step-sound, step-on, step-refused}
use Rattle.answer.specs.Outcome.{done}
use Rattle.tags.proofs.Reading.{from_shape, from_split, later_steps, tags_are}
use Rattle.tags.specs.Tags.{later_faults}
use mathlib.Core.Path.{◌∙◌, ap}
use Rattle.tags.proofs.read_later.Goals as goal

pub read_split-t-requires : goal.read_split-t-requires
read_split-t-requires c =
    rw c.requires.is (from_shape c.args.file.now c.args.d c.requires.room)

pub read_extras-x-requires : goal.read_extras-x-requires
read_extras-x-requires c =
    rw c.read_split-t.ensures (from_split c.args.file.now c.args.d c.requires.room)

pub returns-in_err-check_split : goal.returns-in_err-check_split
returns-in_err-check_split c =
    let steps = later_steps c.args.file.now c.args.d c.args.s _ _ _ c.requires.is c.read_split-t.ensures c.read_extras-x.ensures c.depth_of-depth.ensures in
    handed_outcome _ _ c.from_residual.ensures ∙ refusing _ _ (step-first (steps _ (step-refused _ c.check_split.ensures c.in_err-check_split.was)) refl)

pub returns-in_err-check_extras : goal.returns-in_err-check_extras
returns-in_err-check_extras c =
    let steps = later_steps c.args.file.now c.args.d c.args.s _ _ _ c.requires.is c.read_split-t.ensures c.read_extras-x.ensures c.depth_of-depth.ensures in
    handed_outcome _ _ c.from_residual-in_err-check_extras.ensures ∙ refusing _ _ (step-first (steps _ (step-on c.check_split.ensures c.in_ok-check_split.was c.check_extras.ensures)) c.in_err-check_extras.was)

pub returns : goal.returns
returns c =
    let args = c.args in
    let steps = later_steps args.file.now args.d args.s _ _ _ c.requires.is c.read_split-t.ensures c.read_extras-x.ensures c.depth_of-depth.ensures in
    ap done (tags_are args.file.now args.d args.s _ _ _ c.requires.is c.read_split-t.ensures c.read_extras-x.ensures c.depth_of-depth.ensures _ c.tags_of.ensures) ∙ finishing (later_faults args.file.now args.d) _ (step-sound (steps _ (step-on c.check_split.ensures c.in_ok-check_split.was c.check_extras.ensures)) c.in_ok-check_extras.was)
