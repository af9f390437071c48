-- `rows::transform_words` meets its contract: words in the other order without prediction, else the row predicted or undone.
-- Assumes nothing.
use Rattle.std.proofs.Common.{◌≡◌, ◌≤◌, false, length, ◌∙◌, arith, ltb-false}
use Rattle.laws.proofs.Groups.{groups-words}
use Rattle.laws.proofs.Says.{neither}
use Rattle.rows.specs.Row.{one_row}
use Rattle.rows.proofs.Loops.{resumed-none}
use Rattle.rows.proofs.Leading.{lead_fits, lead_on, lead_all, unpredicted}
use Rattle.rows.proofs.transform_words.Goals as goal

pub lead-requires : goal.lead-requires
lead-requires c =
    lead_fits c.requires

pub steps-requires : goal.steps-requires
steps-requires c =
    let args = c.args in
    (c.requires.takes, lead_on args.raw.now (λ i. omega (arith, c.type_inv.raw i)) args.form.channels args.form.width args.form.le args.form.out_le args.forward args.out.now _ c.requires c.lead.ensures)

pub returns-then-forward-form : goal.returns-then-forward-form
returns-then-forward-form c =
    let args = c.args in
    rw c.if-predict.true (lead_all args.raw.now (λ i. omega (arith, c.type_inv.raw i)) args.form.channels args.form.width args.form.le args.form.out_le args.forward args.out.now _ c.requires c.lead.ensures _ c.steps.ensures)

pub returns-else-forward-form : goal.returns-else-forward-form
returns-else-forward-form c =
    let at_most_four : (c.args.forward ≡ false) × (c.args.form.channels ≤ 4) = let is = neither _ _ c.if-forward-form.false in (is.0, ltb-false _ _ is.1) in
    let args = c.args in
    rw (c.if-predict.true, at_most_four.0) (c.rows.ensures ∙ resumed-none args.raw.now (one_row args.raw.now args.form.channels args.form.width) args.form.le args.form.out_le args.out.now 4 c.requires.fits.channel)

pub returns-else-predict : goal.returns-else-predict
returns-else-predict c =
    let args = c.args in
    let words = groups-words (length args.raw.now) args.form.channels args.form.width c.requires.fits.groups in
    rw c.if-predict.false (unpredicted args.raw.now (λ i. omega (arith, c.type_inv.raw i)) (one_row args.raw.now args.form.channels args.form.width) args.form.le args.form.out_le args.forward args.out.now c.reorder.result _ c.requires.takes words c.requires.fits.room c.reorder.ensures)
