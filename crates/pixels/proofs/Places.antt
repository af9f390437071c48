-- Where a byte of the picture stands in the planes and which byte of the picture a place of the planes takes: each undoes the other, where a place
-- holds one byte. Assumes nothing.
use Prim.Native.Nat.{ℕ, ◌+◌, ◌-◌, ◌*◌, ◌/◌, ◌%◌, ◌<◌}
use mathlib.Core.Path.{◌≡◌, refl, sym, ap, ◌∙◌}
use mathlib.Core.Bool.{Bool, true, false, ◌&&◌}
use native.Mathlib.Nat.{mul_comm, mul-one, add_assoc, div-add-mod', mod-lt, div-lt_iff_lt-mul, mul_assoc}
use native.Mathlib.Omega.{arith}
use lib.Dec.{eqb}
use Rattle.answer.specs.Outcome.{Sound, pick}
use Rattle.layout.specs.declared.RasterLayout.{RasterLayout}
use Rattle.layout.specs.Layout.{encoded_width, plane_channels, planes, plane_length, scratch_length, record_faults, packed, high_first, plain_index, source_index}
use Rattle.layout.proofs.Accepted.{up_to_eight}
use Rattle.layout.proofs.Whole.{record_accepted, record_agreed}
use Rattle.laws.proofs.Groups.{grouped, group_of, item_of, positive}
use Rattle.layout.proofs.Placed.{stride_some, output_is, scratch_is, plain-one, row_is, high_first-within}
use Rattle.pixels.specs.Render.{row_bytes}
use Rattle.pixels.specs.Planes.{place_index}

-- the bytes of a word change places, and change back
pub high_first_twice : (bytes : ℕ) (le : Bool) (c : ℕ) → high_first bytes le (high_first bytes le c) ≡ c
unfolding high_first
high_first_twice bytes le c = by (eqb bytes 2 && le)
  where
    by : (b : Bool) → pick b (pick b (c - c % 2 + 1 - c % 2) c - pick b (c - c % 2 + 1 - c % 2) c % 2 + 1 - pick b (c - c % 2 + 1 - c % 2) c % 2) (pick b (c - c % 2 + 1 - c % 2) c) ≡ c
    by true = omega arith
    by false = refl

-- bytes of a pixel
abbrev pub stride : RasterLayout → ℕ
stride l = l.fields.ch * l.fields.bytes

-- a picture's length by its rows
pub output_rows : (l : RasterLayout) → Sound (record_faults l) → l.output_len ≡ l.fields.h * row_bytes l
output_rows l s = output_is l s ∙ ap (λ (n : ℕ). n * stride l) (mul_comm l.fields.w l.fields.h) ∙ mul_assoc l.fields.h l.fields.w (stride l)

module _ (l : RasterLayout) (s : Sound (record_faults l)) (plain : packed l ≡ false) where
  bytes-some : 0 < l.fields.bytes
  bytes-some = (up_to_eight (record_accepted l s).bytes).0

  -- one plane after another, or all in one
  pub plane_is : l.fields.separate ≡ true → (l.plane_len ≡ l.fields.w * l.fields.h * l.fields.bytes) × (l.scratch_len ≡ l.fields.ch * l.plane_len)
  unfolding plane_channels planes plane_length scratch_length
  plane_is e =
      let row : l.encoded_width ≡ encoded_width l.fields = (record_agreed l s).encoded_width_lem in
      (rw (← row, row_is l s plain, (plain-one l s plain).0, e) at (record_agreed l s).plane_length_lem, rw (← (record_agreed l s).plane_length_lem, e, mul_comm) at (record_agreed l s).scratch_length_lem)

  pub together-is : l.fields.separate ≡ false → l.scratch_len ≡ l.fields.w * l.fields.h * (l.fields.ch * l.fields.bytes)
  unfolding plane_channels planes
  together-is e = rw (row_is l s plain, (plain-one l s plain).0, e, mul-one) at (scratch_is l s)

  high_first_below : (c : ℕ) → c < stride l → high_first l.fields.bytes l.fields.le c < stride l
  high_first_below = high_first-within l s

  -- byte c of pixel p, in one plane
  module _ (together : l.fields.separate ≡ false) where
    pub together-source : (p c : ℕ) → c < stride l → source_index l (p * (stride l) + c) ≡ p * (stride l) + high_first l.fields.bytes l.fields.le c
    unfolding plain_index
    together-source p c h = rw (plain, together, group_of p (stride l) h, item_of p (stride l) h)

    pub together-place : (p c : ℕ) → c < stride l → place_index l (p * (stride l) + c) ≡ p * (stride l) + high_first l.fields.bytes l.fields.le c
    unfolding place_index
    together-place p c h = rw (together, group_of p (stride l) h, item_of p (stride l) h)

  -- byte b of channel c of pixel p, in its channel's plane
  module _ (apart : l.fields.separate ≡ true) where
    pub apart-source : (p c : ℕ) → c < stride l → source_index l (p * (stride l) + c) ≡ high_first l.fields.bytes l.fields.le c / l.fields.bytes * l.plane_len + (p * l.fields.bytes + high_first l.fields.bytes l.fields.le c % l.fields.bytes)
    unfolding plain_index
    apart-source p c h = rw (plain, apart, group_of p (stride l) h, item_of p (stride l) h) (add_assoc _ _ _)

    pub apart-place : (p c b : ℕ) → p < l.fields.w * l.fields.h → c < l.fields.ch → b < l.fields.bytes → place_index l (c * l.plane_len + (p * l.fields.bytes + b)) ≡ p * (stride l) + high_first l.fields.bytes l.fields.le (c * l.fields.bytes + b)
    unfolding place_index
    apart-place p c b h k j =
        let inner : p * l.fields.bytes + b < l.plane_len = rw (plane_is apart).0 (grouped h j) in
        rw (apart, group_of c l.plane_len inner, item_of c l.plane_len inner, group_of p l.fields.bytes j, item_of p l.fields.bytes j)

  pixel : (k : ℕ) → k < l.output_len → k / (stride l) < l.fields.w * l.fields.h
  pixel k h = (div-lt_iff_lt-mul (stride_some l s)).1 (omega (arith, output_is l s))

  -- the picture's byte that goes to a place comes from it
  pub place-source : (k : ℕ) → k < l.output_len → place_index l (source_index l k) ≡ k
  place-source k h = by l.fields.separate refl
    where
      c : ℕ
      c = high_first l.fields.bytes l.fields.le (k % (stride l))

      within : k % (stride l) < stride l
      within = mod-lt k (stride_some l s)

      whole : k / (stride l) * (stride l) + k % (stride l) ≡ k
      whole = div-add-mod' k (stride l)

      back : k / (stride l) * (stride l) + high_first l.fields.bytes l.fields.le c ≡ k
      back = ap (λ (n : ℕ). k / (stride l) * (stride l) + n) (high_first_twice l.fields.bytes l.fields.le (k % (stride l))) ∙ whole

      by : (b : Bool) → l.fields.separate ≡ b → place_index l (source_index l k) ≡ k
      by false e =
          ap (λ (n : ℕ). place_index l (source_index l n)) (sym whole)
          ∙ ap (place_index l) (together-source e (k / (stride l)) (k % (stride l)) within)
          ∙ together-place e (k / (stride l)) c (high_first_below (k % (stride l)) within)
          ∙ back
      by true e =
          ap (λ (n : ℕ). place_index l (source_index l n)) (sym whole)
          ∙ ap (place_index l) (apart-source e (k / (stride l)) (k % (stride l)) within)
          ∙ apart-place e (k / (stride l)) (c / l.fields.bytes) (c % l.fields.bytes) (pixel k h) ((div-lt_iff_lt-mul bytes-some).1 (high_first_below (k % (stride l)) within)) (mod-lt c bytes-some)
          ∙ ap (λ (n : ℕ). k / (stride l) * (stride l) + high_first l.fields.bytes l.fields.le n) (div-add-mod' c l.fields.bytes)
          ∙ back

  -- and a place takes a byte of the picture that comes from there
  pub source-place : (i : ℕ) → i < l.scratch_len → (place_index l i < l.output_len) × (source_index l (place_index l i) ≡ i)
  source-place i h = by l.fields.separate refl
    where
      out : (p c : ℕ) → p < l.fields.w * l.fields.h → c < stride l → p * (stride l) + high_first l.fields.bytes l.fields.le c < l.output_len
      out p c q r = omega (arith, output_is l s, grouped q (high_first_below c r))

      by : (b : Bool) → l.fields.separate ≡ b → (place_index l i < l.output_len) × (source_index l (place_index l i) ≡ i)
      by false e =
          let c = i % (stride l) in
          let within : c < stride l = mod-lt i (stride_some l s) in
          let whole : i / (stride l) * (stride l) + c ≡ i = div-add-mod' i (stride l) in
          let pix : i / (stride l) < l.fields.w * l.fields.h = (div-lt_iff_lt-mul (stride_some l s)).1 (omega (arith, together-is e)) in
          let at : place_index l i ≡ i / (stride l) * (stride l) + high_first l.fields.bytes l.fields.le c = ap (place_index l) (sym whole) ∙ together-place e (i / (stride l)) c within in (
            rw at (out (i / (stride l)) c pix within),
            ap (source_index l) at ∙ together-source e (i / (stride l)) (high_first l.fields.bytes l.fields.le c) (high_first_below c within) ∙ ap (λ (n : ℕ). i / (stride l) * (stride l) + n) (high_first_twice l.fields.bytes l.fields.le c) ∙ whole,
          )
      by true e =
          let plane = l.plane_len in
          let r = i % plane in
          let some : 0 < plane = positive l.fields.ch plane {n = i} (omega (arith, (plane_is e).1)) in
          let whole : i / plane * plane + r ≡ i = div-add-mod' i plane in
          let within : r / l.fields.bytes * l.fields.bytes + r % l.fields.bytes ≡ r = div-add-mod' r l.fields.bytes in
          let chan : i / plane < l.fields.ch = (div-lt_iff_lt-mul some).1 (omega (arith, (plane_is e).1)) in
          let pix : r / l.fields.bytes < l.fields.w * l.fields.h = (div-lt_iff_lt-mul bytes-some).1 (omega (arith, (plane_is e).0, mod-lt i some)) in
          let byte : r % l.fields.bytes < l.fields.bytes = mod-lt r bytes-some in
          let c = i / plane * l.fields.bytes + r % l.fields.bytes in
          let inside : c < stride l = grouped chan byte in
          let at : place_index l i ≡ r / l.fields.bytes * (stride l) + high_first l.fields.bytes l.fields.le c =
          ap (place_index l) (sym whole ∙ ap (λ (n : ℕ). i / plane * plane + n) (sym within)) ∙ apart-place e (r / l.fields.bytes) (i / plane) (r % l.fields.bytes) pix chan byte in (
            rw at (out (r / l.fields.bytes) c pix inside),
            ap (source_index l) at
                ∙ apart-source e (r / l.fields.bytes) (high_first l.fields.bytes l.fields.le c) (high_first_below c inside)
                ∙ ap (λ (n : ℕ). n / l.fields.bytes * plane + (r / l.fields.bytes * l.fields.bytes + n % l.fields.bytes)) (high_first_twice l.fields.bytes l.fields.le c)
                ∙ rw (group_of (i / plane) l.fields.bytes byte, item_of (i / plane) l.fields.bytes byte) (ap (λ (n : ℕ). i / plane * plane + n) within ∙ whole),
          )
