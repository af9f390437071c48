-- `rows::predicted_rows` meets its contract: the invariant and its laws are in proofs/Rows.antt. Assumes nothing.
use Rattle.std.proofs.Common.{◌<◌, true, length, arith}
use Rattle.samples.specs.Sample.{strip, Good}
use Rattle.samples.proofs.Strips.{good_checked}
use Rattle.rows.proofs.Loops.{next_at}
use Rattle.rows.proofs.Rows.{row_begins, part_served, row-meant, row_turned, rows_through}
use Rattle.rows.proofs.predicted_rows.Goals.{In-loop-n, Start}
use Rattle.rows.proofs.predicted_rows.Goals as goal

good : (c : Start) → let args = c.args in Good (length args.raw.now) (strip args.row_bytes args.form.channels args.form.width)
good c =
    good_checked _ _ c.requires.sound

more : (c : In-loop-n) → c.loop-n.at < length c.args.raw.now
more c = omega (arith, row_begins (good_checked _ _ c.requires.sound) c.loop-n-test.true, c.loop-n.invariant.0)

pub nonzero_div-n-end : goal.nonzero_div-n-end
nonzero_div-n-end c = (good (goal.at.nonzero_div-n-end c).Start).long

pub transform_words-requires : goal.transform_words-requires
transform_words-requires c =
    part_served c.requires c.loop-n.invariant.1 (more (goal.at.transform_words-requires c).In-loop-n)

pub loop-n-preserved : goal.loop-n-preserved
loop-n-preserved c =
    let (place, is) = c.loop-n.invariant in
    let there = more (goal.at.loop-n-preserved c).In-loop-n in
    (omega (arith, place, next_at c.loop-n.n c.args.row_bytes), row_turned (good (goal.at.loop-n-preserved c).Start) c.requires.room is there _ _ (row-meant c.requires is there true c.args.form.le c.args.form.out_le c.args.forward) c.transform_words.ensures)

pub returns : goal.returns
returns c =
    let (place, is) = c.loop-n.invariant in
    rows_through (good (goal.at.returns c).Start) c.requires.room (rw place at is) (omega (arith, c.loop-n-test.false))
