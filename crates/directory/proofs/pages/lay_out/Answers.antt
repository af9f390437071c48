-- `directory::pages::lay_out` meets its contract: the layout check's refusal, or the page. Assumes nothing.
use Rattle.std.proofs.Common.{◌∙◌}
use Rattle.answer.proofs.Handed.{handed_outcome}
use Rattle.answer.proofs.Promised.{finishing, refusing}
use Rattle.directory.proofs.Laying.{laid_small}
use Rattle.layout.specs.Layout.{completed, layout_faults}
use Rattle.laws.proofs.Faults.{answered, declined}
use mathlib.Core.Path.{refl}
use Rattle.answer.specs.Outcome.{outcome}
use Rattle.directory.proofs.pages.lay_out.Goals as goal

pub strips_by-requires : goal.strips_by-requires
strips_by-requires c =
    let f = c.args.t.fields in laid_small f _ (answered outcome (layout_faults f) (completed f) c.check_layout.ensures c.in_ok-l.was refl)

pub returns-in_err-l : goal.returns-in_err-l
returns-in_err-l c =
    let f = c.args.t.fields in handed_outcome _ _ c.from_residual.ensures ∙ refusing (layout_faults f) _ (declined outcome (layout_faults f) (completed f) c.check_layout.ensures c.in_err-l.was refl)

pub returns : goal.returns
returns c =
    let f = c.args.t.fields in
    let is = answered outcome (layout_faults f) (completed f) c.check_layout.ensures c.in_ok-l.was refl in
    rw (c.strips_by.ensures, is.0) (finishing (layout_faults f) _ is.1)
