-- `layout::check_record` meets its contract: the steps' refusal, then the comparison. Assumes nothing.
use mathlib.Core.Path.{◌≡◌, sym, ap, ◌∙◌}
use Rattle.answer.proofs.Promised.{step-sound, step-on}
use Rattle.layout.specs.Layout.{completed, agreement}
use mathlib.Core.Bool.{not}
use Rattle.layout.proofs.Compared.{compared, fields_of}
use Rattle.layout.proofs.check_record.Goals as goal

pub complete-requires : goal.complete-requires
complete-requires c =
    step-sound c.check_fields.ensures c.in_ok-check_fields.was

pub returns : goal.returns
returns c =
    let l = c.args.l in
    let differ : c.ne.result ≡ not (agreement l (completed l.fields)) = c.ne.ensures ∙ ap not (compared l c.complete.result (sym (ap fields_of c.complete.ensures)) ∙ ap (agreement l) c.complete.ensures) in
    let found = rw differ at c.fault.ensures in (step-on c.check_fields.ensures c.in_ok-check_fields.was found).passed
