-- `rows::resume::from_pixel` meets its contract: whole pixels, and the words that are left. Assumes nothing.
use Rattle.std.proofs.Common.{ℕ, ◌-◌, ◌*◌, ◌%◌, length, arith}
use Rattle.rows.proofs.Joining.{front-pixels, whole-inside, whole_words, whole-pixels, pixel_some, pixel_fits, back-run, both_ran}
use Rattle.rows.proofs.resume.from_pixel.Goals as goal

pub overflow_mul-whole : goal.overflow_mul-whole
overflow_mul-whole c =
    omega (arith, pixel_fits c.requires)

pub nonzero_rem-whole : goal.nonzero_rem-whole
nonzero_rem-whole c =
    pixel_some c.requires

pub pixels-requires : goal.pixels-requires
pixels-requires c =
    front-pixels c.requires

pub words-requires : goal.words-requires
words-requires c =
    let whole : ℕ = let args = c.args in length args.raw.now - length args.raw.now % (args.form.channels * args.form.width) in
    back-run c.args.form.le c.args.form.out_le c.requires whole (whole-inside c.requires) (whole_words c.requires) c.pixels.ensures 0 c.requires.here

pub returns : goal.returns
returns c =
    let whole : ℕ = let args = c.args in length args.raw.now - length args.raw.now % (args.form.channels * args.form.width) in
    both_ran c.args.form.le c.args.form.out_le c.requires whole (whole-inside c.requires) (whole_words c.requires) c.pixels.ensures (whole-pixels c.requires) c.words.ensures
