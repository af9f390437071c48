-- `hamrisk_write_file` meets its contract: a layout that is refused is refused by `write_file` too, and the record that is handed on is the
-- completed one, so that the promise of file writing is the call's. Assumes nothing.
use Rattle.std.specs.Prelude.{Err}
use Prim.Native.Nat.{ℕ}
use mathlib.Core.Path.{refl, ◌∙◌}
use mathlib.Core.List.{List}
use Rattle.layout.specs.declared.RasterLayout.{RasterLayout}
use Rattle.files.specs.File.{FileWritten}
use Rattle.capi.specs.OnLayouts.{fields_of}
use Rattle.capi.proofs.Telling.{lent_as}
use Rattle.capi.proofs.OnLayouts.{file_refused, handed_on, flag_refused, flag_never_done}
use Rattle.capi.proofs.layouts.hamrisk_write_file.Goals as goal

pub returns-in-Err : goal.returns-in-Err
returns-in-Err c =
    let a = c.args in
    record {
      served = λ e. record {
        answer = Err c.in-Err.kind;
        allowed = file_refused (fields_of a.layout.now) (c.asked.ensures.served e) c.in-Err.is a.rows_per_strip a.planes.now a.out.now;
        number_is = c.from.ensures;
        value-is = refl;
      };
      unserved = λ e. (c.from.ensures ∙ flag_refused c.asked.ensures e c.in-Err.is, refl);
    }

pub returns-in-Ok : goal.returns-in-Ok
returns-in-Ok c =
    let a = c.args in
    record {
      served = λ e. lent_as c.lend.ensures (handed_on (fields_of a.layout.now) (c.asked.ensures.served e) (λ (l : RasterLayout) (new : List ℕ). FileWritten l a.rows_per_strip a.planes.now a.out.now c.write_file.result new) _ c.in-Ok.is c.write_file.ensures);
      unserved = λ e. flag_never_done c.asked.ensures e c.in-Ok.is;
    }
