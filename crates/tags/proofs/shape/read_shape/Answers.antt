-- `tags::shape::read_shape` meets its contract: each tag is looked for from the entry of the one before. Assumes nothing.
use Rattle.entries.specs.Entries.{field_of}
use Rattle.tags.proofs.Reading.{next_field}
use Rattle.tags.specs.Tags.{shape_of}
use mathlib.Core.Path.{◌≡◌}
use native.Mathlib.Omega.{arith}
use Rattle.tags.proofs.shape.read_shape.Goals as goal

pub returns : goal.returns
unfolding shape_of
returns c =
    let width_is : let args = c.args in c.field_from-width.result ≡ field_of args.file.now args.d 256 0 = c.field_from-width.ensures in
    let height_is : let args = c.args in c.field_from-height.result ≡ field_of args.file.now args.d 257 0 = next_field c.args.file.now c.args.d c.requires 256 0 257 0 _ _ (omega arith) width_is c.field_from-height.ensures in
    let bits_is : let args = c.args in c.field_from-bits.result ≡ field_of args.file.now args.d 258 1 = next_field c.args.file.now c.args.d c.requires 257 0 258 1 _ _ (omega arith) height_is c.field_from-bits.ensures in
    let compression_is : let args = c.args in c.field_from-compression.result ≡ field_of args.file.now args.d 259 1 = next_field c.args.file.now c.args.d c.requires 258 1 259 1 _ _ (omega arith) bits_is c.field_from-compression.ensures in
    let photometric_is : let args = c.args in c.field_from-photometric.result ≡ field_of args.file.now args.d 262 0 = next_field c.args.file.now c.args.d c.requires 259 1 262 0 _ _ (omega arith) compression_is c.field_from-photometric.ensures in
    rw (width_is, height_is, bits_is, compression_is, photometric_is)
