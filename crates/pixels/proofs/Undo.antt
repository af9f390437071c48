-- Rendering what was written gives the picture, and writing what was rendered gives the planes, but for bilevel padding bits, which become 0.
-- Byte by byte, over every layout that both serve. Assumes nothing.
use Prim.Native.Nat.{ℕ, zero, suc, ◌+◌, ◌-◌, ◌*◌, ◌/◌, ◌%◌, ◌^◌, ◌<◌}
use mathlib.Core.Path.{◌≡◌, refl, sym, ap, ◌∙◌}
use mathlib.Core.Bool.{Bool, true, false, not, ◌&&◌, ◌||◌}
use mathlib.Core.List.{List}
use mathlib.Core.Logic.{◌⊎◌, inl, inr}
use native.Mathlib.Nat.{div-one, mod-lt, div-add-mod', div-lt_iff_lt-mul, mul-one, mul_comm}
use native.Mathlib.Omega.{arith}
use borrow.Author.Tests.{eq-eqb, eqb-true, lt-ltb, ltb-true, not-false}
use native.Mathlib.Decide.{dec_lt}
use lib.ListN.{get_or}
use lib.Dec.{eqb, ltb}
use Rattle.answer.specs.Outcome.{Sound, pick, xor}
use Rattle.answer.specs.Table.{table}
use Rattle.answer.proofs.Filling.{table_at}
use Rattle.words.specs.Digits.{digit}
use Rattle.words.specs.Word.{Bytes}
use Rattle.words.proofs.Digits.{digit_value, value_same}
use Rattle.layout.specs.declared.RasterLayout.{RasterLayout}
use Rattle.layout.specs.Layout.{record_faults, packed, packed_index, source_index}
use Rattle.laws.proofs.Picks.{picked, not_picked, pick_below}
use Rattle.laws.proofs.Groups.{grouped, group_of, item_of}
use Rattle.laws.proofs.Says.{Says, up, equal, both, either}
use Rattle.layout.proofs.Accepted.{bilevel}
use Rattle.layout.proofs.Whole.{record_accepted}
use Rattle.layout.proofs.Placed.{output_is, scratch_is, packed-one, plain-one, row_within, source_below}
use Rattle.pixels.specs.Render.{flipped, source, bilevel_byte, last_channel, plain_byte, converted}
use Rattle.pixels.specs.Planes.{place_index, flips, bilevel_bit, column, bilevel_plane, written, unpadded, two_levels}
use Rattle.pixels.proofs.Places.{place-source, source-place}

pub flipped-flipped : (b : Bool) (v : ℕ) → v < 256 → flipped b (flipped b v) ≡ v
flipped-flipped true v h = omega arith
flipped-flipped false v h = refl

-- a byte of two levels and its bit
pub level_bit : (white : Bool) (v : ℕ) → (v ≡ 0) ⊎ (v ≡ 255) → pick (xor (eqb (bilevel_bit white v) 0) white) 0 255 ≡ v
level_bit true v (inl e) = rw e
level_bit true v (inr e) = rw e
level_bit false v (inl e) = rw e
level_bit false v (inr e) = rw e

pub bit_level : (white : Bool) (b : ℕ) → b < 2 → bilevel_bit white (pick (xor (eqb b 0) white) 0 255) ≡ b
bit_level true zero h = refl
bit_level true (suc zero) h = refl
bit_level false zero h = refl
bit_level false (suc zero) h = refl
bit_level white (suc (suc n)) h = absurd (omega arith)

-- what white does without alpha kind 1
plain-flipped : (l : RasterLayout) (raw : List ℕ) (k : ℕ) → eqb l.fields.alpha 1 ≡ false → plain_byte l raw k ≡ flipped (flips l k) (source l raw k)
unfolding plain_byte
plain-flipped l raw k one = rw one (by (eqb l.fields.alpha 0) (last_channel l k) l.fields.white)
  where
    by : (none last white : Bool) → pick (not none && not last) (flipped white (source l raw k)) (flipped (white && none) (source l raw k)) ≡ flipped (white && (none || not last)) (source l raw k)
    by true true true = refl
    by true true false = refl
    by true false true = refl
    by true false false = refl
    by false true true = refl
    by false true false = refl
    by false false true = refl
    by false false false = refl

bit_below : (white : Bool) (v : ℕ) → bilevel_bit white v < 2
bit_below white v = by (xor (eqb v 0) white)
  where
    by : (b : Bool) → pick b 0 1 < 2
    by true = omega arith
    by false = omega arith

module _ (l : RasterLayout) (s : Sound (record_faults l)) (off : l.fields.palette ≡ false) where
  -- bilevel: column x of row y
  module _ (eight : l.fields.slots ≡ 8) where
    is_packed : packed l ≡ true
    is_packed = rw (off, eight)

    one : ((l.fields.ch ≡ 1) × (l.fields.bytes ≡ 1)) × (l.fields.alpha ≡ 0)
    one = bilevel (record_accepted l s) off eight

    pub bilevel_output : l.output_len ≡ l.fields.h * l.fields.w
    bilevel_output = output_is l s ∙ rw (one.0.0, one.0.1, mul-one) (mul_comm l.fields.w l.fields.h)

    pub bilevel_scratch : l.scratch_len ≡ l.fields.h * l.encoded_width
    bilevel_scratch = scratch_is l s ∙ rw ((packed-one l s is_packed).1, mul-one) (mul_comm l.encoded_width l.fields.h)

    pub bilevel_source : (y x : ℕ) → x < l.fields.w → source_index l (y * l.fields.w + x) ≡ y * l.encoded_width + x / 8
    unfolding packed_index
    bilevel_source y x h = rw (is_packed, one.0.0, div-one, group_of y l.fields.w h, item_of y l.fields.w h, eight)

    pub bilevel_converted : (file raw : List ℕ) (y x : ℕ) → x < l.fields.w → converted l file raw (y * l.fields.w + x) ≡ bilevel_byte l.fields.white x (get_or raw (y * l.encoded_width + x / 8) 0)
    unfolding converted
    bilevel_converted file raw y x h =
        not_picked _ _ off
        ∙ picked _ _ (eq-eqb l.fields.slots 8 eight)
        ∙ ap (λ (n : ℕ). bilevel_byte l.fields.white n (source l raw (y * l.fields.w + x))) (item_of y l.fields.w h)
        ∙ ap (λ (i : ℕ). bilevel_byte l.fields.white x (get_or raw i 0)) (bilevel_source y x h)

    -- the bit of a column
    pub bilevel_bit_lem : (picture : List ℕ) (y x : ℕ) → x < l.fields.w → digit 2 (7 - x % 8) (bilevel_plane l picture (y * l.encoded_width + x / 8)) ≡ bilevel_bit l.fields.white (get_or picture (y * l.fields.w + x) 0)
    unfolding bilevel_plane
    bilevel_bit_lem picture y x h =
        let room : x / 8 < l.encoded_width = rw eight at (row_within l s x h) in
        let here : 8 * (x / 8) + (7 - (7 - x % 8)) ≡ x = omega arith in
        rw (group_of y l.encoded_width room, item_of y l.encoded_width room)
        (digit_value 2 8 (λ p. pick (ltb (8 * (x / 8) + (7 - p)) l.fields.w) (bilevel_bit l.fields.white (get_or picture (y * l.fields.w + (8 * (x / 8) + (7 - p))) 0)) 0) (λ p q. pick_below (ltb (8 * (x / 8) + (7 - p)) l.fields.w) (bit_below l.fields.white (get_or picture (y * l.fields.w + (8 * (x / 8) + (7 - p))) 0)) (omega arith)) (7 - x % 8) (omega arith)
        ∙ rw (here, lt-ltb x l.fields.w h))

    -- rendered from what was written
    pub bilevel_render_written : (file picture : List ℕ) (k : ℕ) → k < l.output_len → (get_or picture k 0 ≡ 0) ⊎ (get_or picture k 0 ≡ 255) → converted l file (table l.scratch_len (written l picture)) k ≡ get_or picture k 0
    unfolding written
    bilevel_render_written file picture k h levels =
        let y = k / l.fields.w in
        let x = k % l.fields.w in
        let wide = (record_accepted l s).wide in
        let column_in : x < l.fields.w = mod-lt k wide in
        let here : y * l.fields.w + x ≡ k = div-add-mod' k l.fields.w in
        let row : y < l.fields.h = (div-lt_iff_lt-mul wide).1 (omega (arith, bilevel_output)) in
        let room : x / 8 < l.encoded_width = rw eight at (row_within l s x column_in) in
        let place : y * l.encoded_width + x / 8 < l.scratch_len = omega (arith, bilevel_scratch, grouped row room) in
        ap (converted l file (table l.scratch_len (written l picture))) (sym here)
        ∙ bilevel_converted file (table l.scratch_len (written l picture)) y x column_in
        ∙ ap (bilevel_byte l.fields.white x) (table_at l.scratch_len (written l picture) (y * l.encoded_width + x / 8) place ∙ picked _ _ (eq-eqb l.fields.slots 8 eight))
        ∙ ap (λ (b : ℕ). pick (xor (eqb b 0) l.fields.white) 0 255) (bilevel_bit_lem picture y x column_in)
        ∙ ap (λ (i : ℕ). pick (xor (eqb (bilevel_bit l.fields.white (get_or picture i 0)) 0) l.fields.white) 0 255) here
        ∙ level_bit l.fields.white (get_or picture k 0) levels

    -- written from what was rendered
    pub bilevel_write_rendered : (file raw : List ℕ) (i : ℕ) → i < l.scratch_len → written l (table l.output_len (converted l file raw)) i ≡ unpadded l raw i
    unfolding written unpadded bilevel_plane
    bilevel_write_rendered file raw i h =
        picked _ _ (eq-eqb l.fields.slots 8 eight)
        ∙ value_same 2 8 _ _ (λ p q. each p q (ltb (column l i p) l.fields.w) refl)
        ∙ sym (picked _ _ (eq-eqb l.fields.slots 8 eight))
      where
        some : 0 < l.encoded_width
        some = omega (arith, row_within l s 0 (record_accepted l s).wide)

        each : (p : ℕ) → p < 8 → (b : Bool) → ltb (column l i p) l.fields.w ≡ b → pick b (bilevel_bit l.fields.white (get_or (table l.output_len (converted l file raw)) (i / l.encoded_width * l.fields.w + column l i p) 0)) 0 ≡ pick b (digit 2 p (get_or raw i 0)) 0
        each p q false e = refl
        each p q true e =
            let y = i / l.encoded_width in
            let x = column l i p in
            let column_in : x < l.fields.w = ltb-true x l.fields.w e in
            let row : y < l.fields.h = (div-lt_iff_lt-mul some).1 (omega (arith, bilevel_scratch)) in
            let bit : 7 - x % 8 ≡ p = omega arith in
            let byte : y * l.encoded_width + x / 8 ≡ i = omega (arith, div-add-mod' i l.encoded_width) in
            ap (bilevel_bit l.fields.white) (table_at l.output_len (converted l file raw) (y * l.fields.w + x) (omega (arith, bilevel_output, grouped row column_in)) ∙ bilevel_converted file raw y x column_in)
            ∙ bit_level l.fields.white (get_or raw (y * l.encoded_width + x / 8) 0 / 2 ^ (7 - x % 8) % 2) (mod-lt _ (omega arith))
            ∙ rw (bit, byte)

  -- a byte to a place
  module _ (plain : packed l ≡ false) (kind : eqb l.fields.alpha 1 ≡ false) where
    several : eqb l.fields.slots 8 ≡ false
    several = rw (plain-one l s plain).1

    plain-converted : (file raw : List ℕ) (k : ℕ) → converted l file raw k ≡ flipped (flips l k) (source l raw k)
    unfolding converted
    plain-converted file raw k = not_picked _ _ off ∙ not_picked _ _ several ∙ plain-flipped l raw k kind

    plain-written : (picture : List ℕ) (i : ℕ) → written l picture i ≡ flipped (flips l (place_index l i)) (get_or picture (place_index l i) 0)
    unfolding written
    plain-written picture i = not_picked _ _ several

    plain_render_written : (file picture : List ℕ) (k : ℕ) → k < l.output_len → Bytes picture → converted l file (table l.scratch_len (written l picture)) k ≡ get_or picture k 0
    plain_render_written file picture k h bytes =
        plain-converted file (table l.scratch_len (written l picture)) k
        ∙ ap (flipped (flips l k))
        (table_at l.scratch_len (written l picture) (source_index l k) (source_below l s k h)
        ∙ plain-written picture (source_index l k)
        ∙ ap (λ (n : ℕ). flipped (flips l n) (get_or picture n 0)) (place-source l s plain k h))
        ∙ flipped-flipped (flips l k) (get_or picture k 0) (bytes k)

    plain_write_rendered : (file raw : List ℕ) (i : ℕ) → i < l.scratch_len → Bytes raw → written l (table l.output_len (converted l file raw)) i ≡ unpadded l raw i
    unfolding unpadded
    plain_write_rendered file raw i h bytes =
        let k = place_index l i in
        let back = source-place l s plain i h in
        plain-written (table l.output_len (converted l file raw)) i
        ∙ ap (flipped (flips l k)) (table_at l.output_len (converted l file raw) k back.0 ∙ plain-converted file raw k)
        ∙ flipped-flipped (flips l k) (source l raw k) (bytes (source_index l k))
        ∙ ap (λ (n : ℕ). get_or raw n 0) back.1
        ∙ sym (not_picked _ _ several)

-- a picture of two levels
pub levels : (n : ℕ) (picture : List ℕ) → two_levels n picture ≡ true → (k : ℕ) → k < n → (get_or picture k 0 ≡ 0) ⊎ (get_or picture k 0 ≡ 255)
levels zero picture e k h = absurd (omega arith)
levels (suc n) picture e k h = by (dec_lt k n) (levels n picture)
  where
    each : Says (two_levels n picture && (eqb (get_or picture n 0) 0 || eqb (get_or picture n 0) 255)) ((two_levels n picture ≡ true) × ((get_or picture n 0 ≡ 0) ⊎ (get_or picture n 0 ≡ 255)))
    each = both (up (two_levels n picture)) (either (equal (get_or picture n 0) 0) (equal (get_or picture n 0) 255))

    by : Dec (k < n) → (two_levels n picture ≡ true → (j : ℕ) → j < n → (get_or picture j 0 ≡ 0) ⊎ (get_or picture j 0 ≡ 255)) → (get_or picture k 0 ≡ 0) ⊎ (get_or picture k 0 ≡ 255)
    by (yes l) below = below (each.tells e).0 k l
    by (no g) below = let last : k ≡ n = omega arith in rw last (each.tells e).1

-- what both calls serve: no palette and no colours multiplied by alpha
module _ (l : RasterLayout) (s : Sound (record_faults l)) (off : l.fields.palette ≡ false) (kind : eqb l.fields.alpha 1 ≡ false) where
  pub render_written : (file picture : List ℕ) (k : ℕ) → k < l.output_len → Bytes picture → (eqb l.fields.slots 8 && not (two_levels l.output_len picture)) ≡ false → converted l file (table l.scratch_len (written l picture)) k ≡ get_or picture k 0
  render_written file picture k h bytes two = by (eqb l.fields.slots 8) refl
    where
      by : (b : Bool) → eqb l.fields.slots 8 ≡ b → converted l file (table l.scratch_len (written l picture)) k ≡ get_or picture k 0
      by true e = let two_level : not (two_levels l.output_len picture) ≡ false = rw e at two in bilevel_render_written l s off (eqb-true l.fields.slots 8 e) file picture k h (levels l.output_len picture (not-false _ two_level) k h)
      by false e = let plain : packed l ≡ false = rw (off, e) in plain_render_written l s off plain kind file picture k h bytes

  pub write_rendered : (file raw : List ℕ) (i : ℕ) → i < l.scratch_len → Bytes raw → written l (table l.output_len (converted l file raw)) i ≡ unpadded l raw i
  write_rendered file raw i h bytes = by (eqb l.fields.slots 8) refl
    where
      by : (b : Bool) → eqb l.fields.slots 8 ≡ b → written l (table l.output_len (converted l file raw)) i ≡ unpadded l raw i
      by true e = bilevel_write_rendered l s off (eqb-true l.fields.slots 8 e) file raw i h
      by false e = let plain : packed l ≡ false = rw (off, e) in plain_write_rendered l s off plain kind file raw i h bytes
