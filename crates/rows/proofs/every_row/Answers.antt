-- `rows::every_row` meets its contract: rows of few channels start from nothing, so that they are the strip's. Assumes nothing.
use Rattle.std.proofs.Common.{◌≡◌, ◌≤◌, false, ◌∙◌, arith, ltb-false}
use borrow.Author.Tests.{not-false}
use Rattle.answer.proofs.Promised.{sound-here}
use Rattle.samples.specs.Sample.{strip}
use Rattle.samples.proofs.Strips.{good_checked}
use Rattle.laws.proofs.Says.{neither}
use Rattle.rows.proofs.Loops.{resumed-none}
use Rattle.rows.proofs.every_row.Goals.{Else-forward-form}
use Rattle.rows.proofs.every_row.Goals as goal

-- neither forward nor more than four channels
at_most_four : (c : Else-forward-form) → (c.args.forward ≡ false) × (c.args.form.channels ≤ 4)
at_most_four c =
    let is = neither _ _ c.if-forward-form.false in (is.0, ltb-false _ _ is.1)

pub rows-requires : goal.rows-requires
rows-requires c =
    let pre = c.requires in
    record { takes = not-false _ (sound-here pre.sound); good = good_checked _ _ pre.sound; few = (at_most_four (goal.at.rows-requires c).Else-forward-form).1; four = omega arith; room = pre.room }

pub returns : goal.returns
returns c =
    let args = c.args in
    let g = strip args.row_bytes args.form.channels args.form.width in
    rw (at_most_four (goal.at.returns c).Else-forward-form).0 (c.rows.ensures ∙ resumed-none args.raw.now g args.form.le args.form.out_le args.out.now 4 (good_checked _ g c.requires.sound).channel)
