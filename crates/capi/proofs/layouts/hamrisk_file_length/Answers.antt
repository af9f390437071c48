-- `hamrisk_file_length` meets its contract: a layout that is refused is refused by `file_length` too, and the record that is handed on is the
-- completed one, so that what is promised of its length is the call's promise. Assumes nothing.
use Rattle.std.specs.Prelude.{ℕ, Err}
use mathlib.Core.Path.{refl, ◌∙◌}
use Rattle.answer.specs.Outcome.{Answer}
use Rattle.layout.specs.declared.RasterLayout.{RasterLayout}
use Rattle.files.specs.File.{Measured}
use Rattle.capi.specs.OnLayouts.{fields_of}
use Rattle.capi.proofs.Telling.{lent_as}
use Rattle.capi.proofs.OnLayouts.{measure_refused, handed_on, flag_refused, flag_never_done}
use Rattle.capi.proofs.layouts.hamrisk_file_length.Goals as goal

pub returns-in-Err : goal.returns-in-Err
returns-in-Err c =
    let a = c.args in
    record {
      served = λ e. record {
        answer = Err c.in-Err.kind;
        allowed = measure_refused (fields_of a.layout.now) (c.asked.ensures.served e) c.in-Err.is a.rows_per_strip;
        number_is = c.from.ensures;
        value-is = refl;
      };
      unserved = λ e. (c.from.ensures ∙ flag_refused c.asked.ensures e c.in-Err.is, refl);
    }

pub returns-in-Ok : goal.returns-in-Ok
returns-in-Ok c =
    let a = c.args in
    record {
      served = λ e. lent_as c.lend.ensures (handed_on (fields_of a.layout.now) (c.asked.ensures.served e) (λ (l : RasterLayout) (w : Answer ℕ). Measured l a.rows_per_strip w) c.file_length.result c.in-Ok.is c.file_length.ensures);
      unserved = λ e. flag_never_done c.asked.ensures e c.in-Ok.is;
    }
