-- What is known of a layout that is whole, and where nothing asked for is at fault. Assumes nothing.
use Prim.Native.Nat.{ℕ}
use native.Mathlib.Omega.{arith}
use mathlib.Core.Path.{◌≡◌, ap}
use borrow.Author.Tests.{eqb-false, ltb-false, not-false}
use lib.Dec.{eqb, ltb}
use Rattle.answer.specs.Outcome.{Sound}
use Rattle.answer.proofs.Promised.{sound-front, sound_back, sound-here, sound_rest}
use Rattle.laws.proofs.Says.{neither}
use Rattle.layout.specs.declared.RasterLayout.{RasterLayout}
use Rattle.layout.specs.Layout.{completed, scratch_length, layout_faults, record_faults}
use Rattle.layout.proofs.Whole.{record_whole}
use Rattle.files.specs.File.{asked_faults}
use Rattle.files.specs.Parts.{Asked}

pub asked : (l : RasterLayout) (each : ℕ) → Sound (asked_faults l each) → Asked l each
asked l each s =
    let whole = sound-front (record_faults l) _ s in
    let rest = sound_back (record_faults l) _ s in
    let rows = neither (eqb each 0) (ltb l.fields.h each) (sound-here (sound_rest rest)) in
    record {
      whole = record_whole l whole;
      fit = record {
        sound = sound-front (layout_faults l.fields) _ whole;
        kind = not-false _ (sound-here rest);
        some = omega (arith, eqb-false each 0 rows.0);
        within = ltb-false l.fields.h each rows.1;
      };
    }

-- the bytes of the planes
pub scratch_is : {l : RasterLayout} → l ≡ completed l.fields → l.scratch_len ≡ scratch_length l.fields
scratch_is whole = ap (λ (x : RasterLayout). x.scratch_len) whole
