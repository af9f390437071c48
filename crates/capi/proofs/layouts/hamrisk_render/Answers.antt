-- `hamrisk_render` meets its contract: a layout that is refused is refused by rendering too, and the record that is handed on is the
-- completed one, so that the promise of rendering is the call's. Assumes nothing.
use Rattle.std.specs.Prelude.{Err}
use Prim.Native.Nat.{ℕ}
use mathlib.Core.Path.{refl, ◌∙◌}
use mathlib.Core.List.{List}
use Rattle.layout.specs.declared.RasterLayout.{RasterLayout}
use Rattle.pixels.specs.Render.{Rendered}
use Rattle.capi.specs.OnLayouts.{fields_of}
use Rattle.capi.proofs.OnLayouts.{render_refused, handed_on, flag_refused, flag_never_done}
use Rattle.capi.proofs.layouts.hamrisk_render.Goals as goal

pub returns-in-Err : goal.returns-in-Err
returns-in-Err c =
    let a = c.args in
    record {
      served = λ e. record {
        answer = Err c.in-Err.kind;
        allowed = render_refused (fields_of a.layout.now) (c.asked.ensures.served e) c.in-Err.is a.file.now a.raw.now a.out.now;
        number_is = c.from.ensures;
      };
      unserved = λ e. (c.from.ensures ∙ flag_refused c.asked.ensures e c.in-Err.is, refl);
    }

pub returns-in-Ok : goal.returns-in-Ok
returns-in-Ok c =
    let a = c.args in
    record {
      served = λ e. record {
        answer = c.render.result;
        allowed = handed_on (fields_of a.layout.now) (c.asked.ensures.served e) (λ (l : RasterLayout) (new : List ℕ). Rendered l a.file.now a.raw.now a.out.now c.render.result new) _ c.in-Ok.is c.render.ensures;
        number_is = c.status.ensures;
      };
      unserved = λ e. flag_never_done c.asked.ensures e c.in-Ok.is;
    }
