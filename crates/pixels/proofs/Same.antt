-- What is rendered depends on the planes' own bytes alone, and what is written on the picture's own. Assumes nothing.
use Prim.Native.Nat.{ℕ, ◌+◌, ◌-◌, ◌*◌, ◌/◌, ◌%◌, ◌≤◌, ◌<◌}
use mathlib.Core.Path.{◌≡◌, refl, ap, ◌∙◌}
use mathlib.Core.Bool.{Bool, true, false}
use mathlib.Core.List.{List}
use native.Mathlib.Nat.{add-mul, one-mul, mul-one, div-add-mod', div-lt_iff_lt-mul, mul-le-mul_right}
use native.Mathlib.Omega.{arith}
use borrow.Author.Tests.{eqb-true, eqb-false, ltb-true}
use lib.ListN.{get_or}
use lib.Dec.{eqb, ltb}
use Rattle.answer.specs.Outcome.{Sound, pick}
use Rattle.words.proofs.Digits.{value_same}
use Rattle.layout.specs.declared.RasterLayout.{RasterLayout}
use Rattle.layout.specs.Layout.{record_faults, packed}
use Rattle.laws.proofs.Groups.{grouped}
use Rattle.layout.proofs.Whole.{record_accepted}
use Rattle.layout.proofs.Placed.{output_is, row_within, source_below}
use Rattle.pixels.specs.Render.{flipped, source, plain_byte, converted}
use Rattle.pixels.specs.Planes.{place_index, flips, bilevel_bit, column, bilevel_plane, written}
use Rattle.pixels.proofs.Places.{source-place}
use Rattle.pixels.proofs.Undo.{bilevel_output, bilevel_scratch}

module _ (l : RasterLayout) (s : Sound (record_faults l)) where
  -- planes that agree
  module _ (raw other : List ℕ) (agree : (i : ℕ) → i < l.scratch_len → get_or raw i 0 ≡ get_or other i 0) where
    source-same : (k : ℕ) → k < l.output_len → source l raw k ≡ source l other k
    source-same k h = agree _ (source_below l s k h)

    -- a pixel's alpha is in the picture too
    alpha_inside : (k : ℕ) → k < l.output_len → eqb l.fields.alpha 0 ≡ false → k - k % l.fields.ch + l.fields.ch - 1 < l.output_len
    alpha_inside k h e =
        let shown = record_accepted l s in
        let one : l.fields.bytes ≡ 1 = (shown.covered (eqb-false l.fields.alpha 0 e)).0.0 in
        let size : l.output_len ≡ l.fields.w * l.fields.h * l.fields.ch = output_is l s ∙ ap (λ (n : ℕ). l.fields.w * l.fields.h * (l.fields.ch * n)) one ∙ ap (λ (n : ℕ). l.fields.w * l.fields.h * n) (mul-one l.fields.ch) in
        let pixel : k / l.fields.ch < l.fields.w * l.fields.h = (div-lt_iff_lt-mul shown.some).1 (omega arith) in
        let end : (k / l.fields.ch + 1) * l.fields.ch ≤ l.fields.w * l.fields.h * l.fields.ch = mul-le-mul_right l.fields.ch (omega (arith, pixel)) in
        omega (arith, shown.some, div-add-mod' k l.fields.ch, add-mul (k / l.fields.ch) 1 l.fields.ch, one-mul l.fields.ch)

    plain-same : (k : ℕ) → k < l.output_len → plain_byte l raw k ≡ plain_byte l other k
    unfolding plain_byte
    plain-same k h = by (eqb l.fields.alpha 0) refl
      where
        by : (b : Bool) → eqb l.fields.alpha 0 ≡ b → plain_byte l raw k ≡ plain_byte l other k
        by true e = rw (e, source-same k h)
        by false e = rw (e, source-same k h, source-same (k - k % l.fields.ch + l.fields.ch - 1) (alpha_inside k h e))

    pub converted-same : (file : List ℕ) (k : ℕ) → k < l.output_len → converted l file raw k ≡ converted l file other k
    unfolding converted
    converted-same file k h = rw (source-same k h, plain-same k h)

  -- pictures that agree
  module _ (off : l.fields.palette ≡ false) (picture other : List ℕ) (agree : (k : ℕ) → k < l.output_len → get_or picture k 0 ≡ get_or other k 0) where
    bilevel_same : l.fields.slots ≡ 8 → (i : ℕ) → i < l.scratch_len → bilevel_plane l picture i ≡ bilevel_plane l other i
    unfolding bilevel_plane
    bilevel_same eight i h = value_same 2 8 _ _ (λ p q. each p (ltb (column l i p) l.fields.w) refl)
      where
        some : 0 < l.encoded_width
        some = omega (arith, row_within l s 0 (record_accepted l s).wide)

        row : i / l.encoded_width < l.fields.h
        row = (div-lt_iff_lt-mul some).1 (omega (arith, bilevel_scratch l s off eight))

        each : (p : ℕ) (b : Bool) → ltb (column l i p) l.fields.w ≡ b → pick b (bilevel_bit l.fields.white (get_or picture (i / l.encoded_width * l.fields.w + column l i p) 0)) 0 ≡ pick b (bilevel_bit l.fields.white (get_or other (i / l.encoded_width * l.fields.w + column l i p) 0)) 0
        each p false e = refl
        each p true e = ap (bilevel_bit l.fields.white) (agree _ (omega (arith, bilevel_output l s off eight, grouped row (ltb-true (column l i p) l.fields.w e))))

    pub written_same : (i : ℕ) → i < l.scratch_len → written l picture i ≡ written l other i
    unfolding written
    written_same i h = by (eqb l.fields.slots 8) refl
      where
        by : (b : Bool) → eqb l.fields.slots 8 ≡ b → pick b (bilevel_plane l picture i) (flipped (flips l (place_index l i)) (get_or picture (place_index l i) 0)) ≡ pick b (bilevel_plane l other i) (flipped (flips l (place_index l i)) (get_or other (place_index l i) 0))
        by true e = bilevel_same (eqb-true l.fields.slots 8 e) i h
        by false e = let plain : packed l ≡ false = rw (off, e) in ap (flipped (flips l (place_index l i))) (agree (place_index l i) (source-place l s plain i h).0)
