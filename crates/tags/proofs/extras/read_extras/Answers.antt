-- `tags::extras::read_extras` meets its contract: each tag is looked for from the entry of the one before. Assumes nothing.
use Rattle.entries.proofs.Seeking.{field_next}
use Rattle.entries.specs.Entries.{field_of}
use Rattle.tags.proofs.Reading.{next_field}
use Rattle.tags.specs.Tags.{extras_of}
use mathlib.Core.Path.{◌∙◌, ◌≡◌}
use native.Mathlib.Omega.{arith}
use Rattle.tags.proofs.extras.read_extras.Goals as goal

pub returns : goal.returns
unfolding extras_of
returns c =
    let predictor_is : let args = c.args in c.field_from-predictor.result ≡ field_of args.file.now args.d 317 1 = c.field_from-predictor.ensures ∙ field_next c.args.file.now c.args.d _ 317 1 c.requires in
    let map_is : let args = c.args in c.field_from-map.result ≡ field_of args.file.now args.d 320 0 = next_field c.args.file.now c.args.d c.requires.room 317 1 320 0 _ _ (omega arith) predictor_is c.field_from-map.ensures in
    let extra_is : let args = c.args in c.field_from-extra.result ≡ field_of args.file.now args.d 338 0 = next_field c.args.file.now c.args.d c.requires.room 320 0 338 0 _ _ (omega arith) map_is c.field_from-extra.ensures in
    rw (predictor_is, map_is, extra_is)
