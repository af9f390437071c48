-- `tags::split::read_split` meets its contract: each tag is looked for from the entry of the one before. Assumes nothing.
use Rattle.entries.proofs.Seeking.{field_next}
use Rattle.entries.specs.Entries.{field_of}
use Rattle.tags.proofs.Reading.{next_field}
use Rattle.tags.specs.Tags.{split_of}
use mathlib.Core.Path.{◌∙◌, ◌≡◌}
use native.Mathlib.Omega.{arith}
use Rattle.tags.proofs.split.read_split.Goals as goal

pub returns : goal.returns
unfolding split_of
returns c =
    let offsets_is : let args = c.args in c.field_from-offsets.result ≡ field_of args.file.now args.d 273 0 = c.field_from-offsets.ensures ∙ field_next c.args.file.now c.args.d _ 273 0 c.requires in
    let samples_is : let args = c.args in c.field_from-samples.result ≡ field_of args.file.now args.d 277 1 = next_field c.args.file.now c.args.d c.requires.room 273 0 277 1 _ _ (omega arith) offsets_is c.field_from-samples.ensures in
    let rows_is : let args = c.args in c.field_from-rows.result ≡ field_of args.file.now args.d 278 4294967295 = next_field c.args.file.now c.args.d c.requires.room 277 1 278 4294967295 _ _ (omega arith) samples_is c.field_from-rows.ensures in
    let counts_is : let args = c.args in c.field_from-counts.result ≡ field_of args.file.now args.d 279 0 = next_field c.args.file.now c.args.d c.requires.room 278 4294967295 279 0 _ _ (omega arith) rows_is c.field_from-counts.ensures in
    let planar_is : let args = c.args in c.field_from-planar.result ≡ field_of args.file.now args.d 284 1 = next_field c.args.file.now c.args.d c.requires.room 279 0 284 1 _ _ (omega arith) counts_is c.field_from-planar.ensures in
    rw (offsets_is, samples_is, rows_is, counts_is, planar_is)
