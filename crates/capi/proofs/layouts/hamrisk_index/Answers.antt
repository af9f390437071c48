-- `hamrisk_index` meets its contract: a layout that is refused is refused by `index` too, and the record that is handed on is the
-- completed one, so that what `place_of` promises of it is the call's promise. Assumes nothing.
use Rattle.std.specs.Prelude.{Err}
use Prim.Native.Nat.{ℕ}
use mathlib.Core.Path.{refl, ◌∙◌}
use Rattle.answer.specs.Outcome.{place_outcome}
use Rattle.layout.specs.declared.RasterLayout.{RasterLayout}
use Rattle.layout.specs.Layout.{Indexed}
use Rattle.capi.specs.Told.{Lent}
use Rattle.capi.specs.OnLayouts.{fields_of}
use Rattle.capi.proofs.OnLayouts.{index_refused, handed_on, flag_refused, flag_never_done}
use Rattle.capi.proofs.layouts.hamrisk_index.Goals as goal

pub returns-in-Err : goal.returns-in-Err
returns-in-Err c =
    let a = c.args in
    record {
      served = λ e. record {
        answer = Err c.in-Err.kind;
        allowed = index_refused (fields_of a.layout.now) (c.asked.ensures.served e) c.in-Err.is a.k;
        number_is = c.from.ensures;
        value-is = refl;
      };
      unserved = λ e. (c.from.ensures ∙ flag_refused c.asked.ensures e c.in-Err.is, refl);
    }

pub returns-in-Ok : goal.returns-in-Ok
returns-in-Ok c =
    let a = c.args in
    record {
      served = λ e. handed_on (fields_of a.layout.now) (c.asked.ensures.served e) (λ (l : RasterLayout) (new : ℕ). Lent place_outcome (Indexed l a.k) c.place_of.result a.place.now new) _ c.in-Ok.is c.place_of.ensures;
      unserved = λ e. flag_never_done c.asked.ensures e c.in-Ok.is;
    }
