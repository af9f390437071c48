-- Where a byte of the picture comes from lies within the planes. Assumes nothing.
use Prim.Native.Nat.{ℕ, ◌+◌, ◌-◌, ◌*◌, ◌/◌, ◌%◌, ◌≤◌, ◌<◌}
use mathlib.Core.Path.{◌≡◌, refl, sym, ap, ◌∙◌}
use mathlib.Core.Bool.{Bool, true, false, ◌&&◌}
use mathlib.Core.Logic.{◌⊎◌, inl, inr, ⊎_elim}
use native.Mathlib.Nat.{mul-le-mul_right, mul_comm, mul_assoc, mul-pos, add-mul, one-mul, mul-one, div-one, div-lt_iff_lt-mul, lt-div-mul-add, mod-lt, mul-div_cancel, div-add-mod'}
use native.Mathlib.Decide.{dec_lt}
use native.Mathlib.Omega.{arith}
use lib.Dec.{eqb}
use Rattle.answer.specs.Outcome.{Sound, pick}
use Rattle.layout.specs.declared.RasterLayout.{RasterLayout}
use Rattle.layout.specs.Layout.{byte_limit, encoded_width, plane_channels, planes, plane_length, scratch_length, output_length, record_faults, packed, packed_index, high_first, pixel_of, byte_of, sample_index, plain_index, source_index}
use Rattle.laws.proofs.Groups.{grouped}
use Rattle.laws.proofs.Says.{Says, clash, refuted, up, equal, both, either}
use Rattle.layout.proofs.Accepted.{Accepted, up_to_eight, bilevel}
use Rattle.layout.proofs.Sizes.{scratch_within}
use Rattle.layout.proofs.Whole.{record_accepted, record_agreed}

module _ (l : RasterLayout) (s : Sound (record_faults l)) where
  shown : Accepted l.fields
  shown = record_accepted l s

  -- bytes of a pixel
  pub stride_some : 0 < l.fields.ch * l.fields.bytes
  stride_some = mul-pos shown.some (up_to_eight shown.bytes).0

  -- the lengths that a record has
  pub output_is : l.output_len ≡ l.fields.w * l.fields.h * (l.fields.ch * l.fields.bytes)
  unfolding output_length
  output_is = (record_agreed l s).output_length_lem ∙ mul_assoc (l.fields.w * l.fields.h) l.fields.ch l.fields.bytes

  pub scratch_is : l.scratch_len ≡ l.encoded_width * l.fields.h * (plane_channels l.fields * planes l.fields)
  unfolding scratch_length plane_length
  scratch_is =
      let row : l.encoded_width ≡ encoded_width l.fields = (record_agreed l s).encoded_width_lem in
      rw row ((record_agreed l s).scratch_length_lem ∙ mul_assoc (encoded_width l.fields * l.fields.h) (plane_channels l.fields) (planes l.fields))

  -- where a byte holds several samples, or a place of the map, a pixel has one byte in the picture's channel and one in all planes
  pub packed-one : packed l ≡ true → (l.fields.bytes ≡ 1) × (plane_channels l.fields * planes l.fields ≡ 1)
  unfolding plane_channels planes
  packed-one e = by l.fields.palette l.fields.separate refl refl
    where
      one_each : l.fields.palette ≡ false → (l.fields.ch ≡ 1) × (l.fields.bytes ≡ 1)
      one_each p = (bilevel shown p (⊎_elim (λ t. clash t p) (λ q. q) ((either (up l.fields.palette) (equal l.fields.slots 8)).tells e))).0

      by : (p t : Bool) → l.fields.palette ≡ p → l.fields.separate ≡ t → (l.fields.bytes ≡ 1) × (plane_channels l.fields * planes l.fields ≡ 1)
      by true t p q = let m = shown.mapped p in (m.0.0.0.1, rw (p, m.0.1))
      by false true p q = let one = one_each p in (one.1, rw (p, q, one.0, one.1))
      by false false p q = let one = one_each p in (one.1, rw (p, q, one.0, one.1))

  -- rows of whole bytes
  pub row_within : (x : ℕ) → x < l.fields.w → x / l.fields.slots < l.encoded_width
  unfolding encoded_width
  row_within x h =
      let some = (up_to_eight shown.slots).0 in
      let row : l.encoded_width ≡ (l.fields.w - 1) / l.fields.slots + 1 = (record_agreed l s).encoded_width_lem in
      rw row ((div-lt_iff_lt-mul some).1 (omega (arith, lt-div-mul-add {a = l.fields.w - 1} some, add-mul ((l.fields.w - 1) / l.fields.slots) 1 l.fields.slots, one-mul l.fields.slots)))

  pub packed_below : (k : ℕ) → packed l ≡ true → k < l.output_len → packed_index l k < l.scratch_len
  unfolding packed_index
  packed_below k e h =
      let one = packed-one e in
      let size : l.output_len ≡ l.fields.w * l.fields.h * l.fields.ch = rw (one.0, mul-one) at output_is in
      let pixel : k / l.fields.ch < l.fields.w * l.fields.h = (div-lt_iff_lt-mul shown.some).1 (omega arith) in
      let line : k / l.fields.ch / l.fields.w < l.fields.h = (div-lt_iff_lt-mul shown.wide).1 (omega (arith, mul_comm l.fields.w l.fields.h)) in
      let scratch : l.scratch_len ≡ l.encoded_width * l.fields.h = rw (one.1, mul-one) at scratch_is in
      rw (scratch, mul_comm l.encoded_width l.fields.h) (grouped line (row_within (k / l.fields.ch % l.fields.w) (mod-lt (k / l.fields.ch) shown.wide)))

  -- elsewhere each sample has bytes of its own, and a row of a plane is as wide as the picture
  pub plain-one : packed l ≡ false → (l.fields.palette ≡ false) × (l.fields.slots ≡ 1)
  plain-one e = (off, ⊎_elim (λ one. one) (λ q. clash (is_packed.told (inr q.0.0.0)) e) (shown.shared off))
    where
      is_packed : Says (packed l) ((l.fields.palette ≡ true) ⊎ (l.fields.slots ≡ 8))
      is_packed = either (up l.fields.palette) (equal l.fields.slots 8)

      off : l.fields.palette ≡ false
      off = sym (refuted (up l.fields.palette) (λ p. clash (is_packed.told (inl p)) e))

  pub row_is : packed l ≡ false → l.encoded_width ≡ l.fields.w
  unfolding encoded_width
  row_is e = rw ((plain-one e).1, div-one) at (record_agreed l s).encoded_width_lem ∙ omega (arith, shown.wide)

  -- the bytes of a word change places within the pixel
  pub high_first-within : (c : ℕ) → c < l.fields.ch * l.fields.bytes → high_first l.fields.bytes l.fields.le c < l.fields.ch * l.fields.bytes
  unfolding high_first
  high_first-within c h = by (eqb l.fields.bytes 2 && l.fields.le) refl
    where
      by : (b : Bool) → (eqb l.fields.bytes 2 && l.fields.le) ≡ b → high_first l.fields.bytes l.fields.le c < l.fields.ch * l.fields.bytes
      by true e = let two : l.fields.bytes ≡ 2 = ((both (equal l.fields.bytes 2) (up l.fields.le)).tells e).0 in let short = rw two at h in rw (e, two) (omega arith)
      by false e = rw e h

  module _ (k : ℕ) (plain : packed l ≡ false) (h : k < l.output_len) where
    pixel_within : k / (l.fields.ch * l.fields.bytes) < l.fields.w * l.fields.h
    pixel_within = (div-lt_iff_lt-mul stride_some).1 (omega (arith, output_is))

    byte_within : high_first l.fields.bytes l.fields.le (k % (l.fields.ch * l.fields.bytes)) < l.fields.ch * l.fields.bytes
    byte_within = high_first-within (k % (l.fields.ch * l.fields.bytes)) (mod-lt k stride_some)

    pub interleaved_below : l.fields.separate ≡ false → k / (l.fields.ch * l.fields.bytes) * (l.fields.ch * l.fields.bytes) + high_first l.fields.bytes l.fields.le (k % (l.fields.ch * l.fields.bytes)) < l.scratch_len
    unfolding plane_channels planes
    interleaved_below e =
        let scratch : l.scratch_len ≡ l.fields.w * l.fields.h * (l.fields.ch * l.fields.bytes) = rw (row_is plain, (plain-one plain).0, e, mul-one) at scratch_is in
        omega (arith, grouped pixel_within byte_within)

    pub separate_below : l.fields.separate ≡ true → (c : ℕ) → c < l.fields.ch * l.fields.bytes → c / l.fields.bytes * l.plane_len + k / (l.fields.ch * l.fields.bytes) * l.fields.bytes + c % l.fields.bytes < l.scratch_len
    unfolding plane_channels planes plane_length scratch_length
    separate_below e c q =
        let some = (up_to_eight shown.bytes).0 in
        let row : l.encoded_width ≡ encoded_width l.fields = (record_agreed l s).encoded_width_lem in
        let plane : l.plane_len ≡ l.fields.w * l.fields.h * l.fields.bytes = rw (← row, row_is plain, (plain-one plain).0, e) at (record_agreed l s).plane_length_lem in
        let all : l.scratch_len ≡ l.plane_len * l.fields.ch = rw (← (record_agreed l s).plane_length_lem, e) at (record_agreed l s).scratch_length_lem in
        let inner : k / (l.fields.ch * l.fields.bytes) * l.fields.bytes + c % l.fields.bytes < l.plane_len = rw plane (grouped pixel_within (mod-lt c some)) in
        let outer = grouped ((div-lt_iff_lt-mul some).1 q) inner in
        omega (arith, mul_comm l.plane_len l.fields.ch, outer)

    pub plain_below : plain_index l k < l.scratch_len
    unfolding plain_index
    plain_below = by l.fields.separate refl
      where
        by : (b : Bool) → l.fields.separate ≡ b → plain_index l k < l.scratch_len
        by true e = rw e (separate_below e (high_first l.fields.bytes l.fields.le (k % (l.fields.ch * l.fields.bytes))) byte_within)
        by false e = rw e (interleaved_below e)

    -- as a sample and a byte of it: the sample's place and the byte within it
    pub sample-place : sample_index l (pixel_of l k) (byte_of l k / l.fields.bytes) * l.fields.bytes + byte_of l k % l.fields.bytes ≡ plain_index l k
    unfolding plain_index plane_channels planes plane_length
    sample-place = by l.fields.separate refl
      where
        some : 0 < l.fields.bytes
        some = (up_to_eight shown.bytes).0

        p : ℕ
        p = pixel_of l k

        c : ℕ
        c = byte_of l k

        by : (b : Bool) → l.fields.separate ≡ b → sample_index l p (c / l.fields.bytes) * l.fields.bytes + c % l.fields.bytes ≡ pick l.fields.separate (c / l.fields.bytes * l.plane_len + p * l.fields.bytes + c % l.fields.bytes) (p * (l.fields.ch * l.fields.bytes) + c)
        by true e =
            let row : l.encoded_width ≡ encoded_width l.fields = (record_agreed l s).encoded_width_lem in
            let plane : l.plane_len ≡ l.fields.w * l.fields.h * l.fields.bytes = rw (← row, row_is plain, (plain-one plain).0, e) at (record_agreed l s).plane_length_lem in
            let whole : l.plane_len / l.fields.bytes * l.fields.bytes ≡ l.plane_len = rw (plane, mul-div_cancel (l.fields.w * l.fields.h) some) in
            rw e (omega (arith, add-mul (c / l.fields.bytes * (l.plane_len / l.fields.bytes)) p l.fields.bytes, mul_assoc (c / l.fields.bytes) (l.plane_len / l.fields.bytes) l.fields.bytes, ap (λ (n : ℕ). c / l.fields.bytes * n) whole))
        by false e =
            rw e (omega (arith, add-mul (p * l.fields.ch) (c / l.fields.bytes) l.fields.bytes, mul_assoc p l.fields.ch l.fields.bytes, div-add-mod' c l.fields.bytes))

    pub sample-inside : (sample_index l (pixel_of l k) (byte_of l k / l.fields.bytes) + 1) * l.fields.bytes ≤ l.scratch_len
    unfolding plane_channels planes
    sample-inside = by (dec_lt n all)
      where
        n : ℕ
        n = sample_index l (pixel_of l k) (byte_of l k / l.fields.bytes)

        all : ℕ
        all = l.fields.w * l.fields.h * l.fields.ch

        shape : (b : Bool) → l.fields.separate ≡ b → plane_channels l.fields * planes l.fields ≡ l.fields.ch * l.fields.bytes
        shape true e = rw ((plain-one plain).0, e) (mul_comm l.fields.bytes l.fields.ch)
        shape false e = rw ((plain-one plain).0, e) (mul-one (l.fields.ch * l.fields.bytes))

        whole : l.scratch_len ≡ all * l.fields.bytes
        whole = scratch_is ∙ rw (row_is plain, shape l.fields.separate refl) (sym (mul_assoc (l.fields.w * l.fields.h) l.fields.ch l.fields.bytes))

        by : Dec (n < all) → (n + 1) * l.fields.bytes ≤ l.scratch_len
        by (yes less) = rw whole (mul-le-mul_right l.fields.bytes (omega arith))
        by (no more) =
            let most : all * l.fields.bytes ≤ n * l.fields.bytes = mul-le-mul_right l.fields.bytes (omega arith) in
            absurd (omega (arith, sample-place, plain_below, whole))

  -- so wherever a byte of the picture comes from
  pub source_below : (k : ℕ) → k < l.output_len → source_index l k < l.scratch_len
  source_below k h = by (packed l) refl
    where
      by : (b : Bool) → packed l ≡ b → source_index l k < l.scratch_len
      by true e = rw e (packed_below k e h)
      by false e = rw e (plain_below k e h)

  -- and the planes are within the limit
  pub scratch_limited : l.scratch_len ≤ byte_limit
  scratch_limited = omega (arith, (record_agreed l s).scratch_length_lem, scratch_within l.fields shown, shown.size)
