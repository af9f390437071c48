-- One plane: what stands in a row of it, and the loop over the rows. Assumes nothing.
use Prim.Native.Nat.{ℕ, ◌+◌, ◌-◌, ◌*◌, ◌/◌, ◌%◌, ◌≤◌, ◌<◌}
use mathlib.Core.Path.{◌≡◌, refl, sym, ap, ◌∙◌}
use mathlib.Core.Bool.{Bool, true, false, not, ◌&&◌, ◌||◌}
use mathlib.Core.List.{List, ◌++◌}
use mathlib.Core.Logic.{◌⊎◌, inl, inr}
use native.Mathlib.Nat.{zero-mul, add-mul, one-mul, mul-one, mul_comm, mul_assoc, mod-lt, div-add-mod', mul-add-mod_self_right, mul-le-mul, mul-le-mul_right}
use native.Mathlib.Omega.{arith}
use borrow.Author.Tests.{eq-eqb, ne_eqb, eqb-true, eqb-false, ltb-true, le-ltb}
use lib.ListN.{length, get_or, take, drop}
use lib.Dec.{eqb, ltb}
use Rattle.answer.specs.Outcome.{Sound, next, none, pick, Done}
use Rattle.answer.specs.Table.{table, filled}
use Rattle.answer.proofs.Promised.{finished}
use Rattle.answer.proofs.Filling.{table_same, part, part_at, length_part, part_filled, length-filled, filled-all}
use Rattle.words.proofs.Digits.{value_same}
use Rattle.layout.specs.declared.RasterLayout.{RasterLayout}
use Rattle.layout.specs.Layout.{side_limit, byte_limit, encoded_width, plane_channels, record_faults, packed, high_first}
use Rattle.laws.proofs.Says.{clash, refuted, up, down, both}
use Rattle.layout.proofs.Accepted.{bilevel, alpha_bytes}
use Rattle.layout.proofs.Whole.{record_accepted, record_agreed}
use Rattle.layout.proofs.Sizes.{bytes-few, encoded_side}
use Rattle.layout.proofs.Placed.{stride_some, row_is, plain-one, scratch_limited}
use Rattle.pixels.specs.Render.{row_bytes, plane_row, flipped}
use Rattle.pixels.specs.Planes.{flips_channel, place_index, flips, bilevel_bit, bilevel_plane, written}
use Rattle.pixels.proofs.Places.{output_rows, together-is, together-place}
use Rattle.laws.proofs.Groups.{group_of, item_of, whole-last, whole_middle}
use Rattle.pixels.proofs.Undo.{bilevel_scratch}
use Rattle.laws.proofs.Picks.{picked, not_picked}
use Rattle.slots.specs.Rows.{eighths, bits_at, bit_faults, BitRow}
use Rattle.pixels.specs.Render.{OneOrTwo}
use Rattle.writing.specs.Parts.{planar, PlainFits, PlainRowWritten, RowGiven, row_at, RowWritten, Together, WrittenInto}
use Rattle.pixels.proofs.HighFirst.{one_or_two, high_first_in, high_first_below}

module _ (l : RasterLayout) (s : Sound (record_faults l)) (bare : l.fields.palette ≡ false) (together : planar l ≡ false) where
  -- a byte holds eight samples, or all channels stand together
  shape : (l.fields.slots ≡ 8) ⊎ ((packed l ≡ false) × (l.fields.separate ≡ false))
  shape = by (eqb l.fields.slots 8) refl
    where
      by : (b : Bool) → eqb l.fields.slots 8 ≡ b → (l.fields.slots ≡ 8) ⊎ ((packed l ≡ false) × (l.fields.separate ≡ false))
      by true e = inl (eqb-true l.fields.slots 8 e)
      by false e =
          inr (rw (bare, e), sym (refuted (up l.fields.separate) (λ t. clash ((both (up l.fields.separate) (down (eqb l.fields.slots 8))).told (t, e)) together)))

  -- a pixel has as many bytes in the planes as in the picture, or eight have one
  place-wide : l.plane_channels ≡ l.fields.ch * l.fields.bytes
  unfolding plane_channels
  place-wide = (record_agreed l s).plane_channels_lem ∙ by shape l.fields.separate refl
    where
      by : (l.fields.slots ≡ 8) ⊎ ((packed l ≡ false) × (l.fields.separate ≡ false)) → (t : Bool) → l.fields.separate ≡ t → plane_channels l.fields ≡ l.fields.ch * l.fields.bytes
      by (inl e) true t = let one = (bilevel (record_accepted l s) bare e).0 in rw (bare, t, one.0, one.1)
      by (inl e) false t = rw (bare, t)
      by (inr q) true t = clash t q.1
      by (inr q) false t = rw (bare, t)

  -- bytes of a bilevel row
  module _ (eight : l.fields.slots ≡ 8) where
    one : ((l.fields.ch ≡ 1) × (l.fields.bytes ≡ 1)) × (l.fields.alpha ≡ 0)
    one = bilevel (record_accepted l s) bare eight

    bilevel_row : (row_bytes l ≡ l.fields.w) × (plane_row l ≡ l.encoded_width)
    bilevel_row = (rw (one.0.0, one.0.1) (mul-one l.fields.w), rw (place-wide, one.0.0, one.0.1) (mul-one l.encoded_width))

    bilevel_eighths : l.encoded_width ≡ eighths l.fields.w
    unfolding encoded_width
    bilevel_eighths = rw eight at (record_agreed l s).encoded_width_lem ∙ omega (arith, (record_accepted l s).wide)

  plain_row_same : packed l ≡ false → plane_row l ≡ row_bytes l
  plain_row_same plain = rw (place-wide, row_is l s plain)

  -- the length by rows
  scratch_rows : l.scratch_len ≡ l.fields.h * plane_row l
  scratch_rows = by shape
    where
      by : (l.fields.slots ≡ 8) ⊎ ((packed l ≡ false) × (l.fields.separate ≡ false)) → l.scratch_len ≡ l.fields.h * plane_row l
      by (inl e) = bilevel_scratch l s bare e ∙ ap (λ (n : ℕ). l.fields.h * n) (sym (bilevel_row e).1)
      by (inr q) =
          together-is l s q.0 q.1
          ∙ ap (λ (n : ℕ). n * (l.fields.ch * l.fields.bytes)) (mul_comm l.fields.w l.fields.h)
          ∙ mul_assoc l.fields.h l.fields.w (l.fields.ch * l.fields.bytes)
          ∙ ap (λ (n : ℕ). l.fields.h * n) (sym (plain_row_same q.0))

  -- and none of these products wraps
  pub rows_few : ((l.fields.ch * l.fields.bytes ≤ 32) × (row_bytes l ≤ side_limit * 32)) × (plane_row l ≤ side_limit * 32)
  rows_few =
      let shown = record_accepted l s in
      let few : l.fields.ch * l.fields.bytes ≤ 32 = bytes-few l.fields shown in
      let encoded : l.encoded_width ≤ side_limit = omega (arith, encoded_side l.fields shown, (record_agreed l s).encoded_width_lem) in
      ((few, mul-le-mul shown.width few), rw place-wide (mul-le-mul encoded few))

  -- a bilevel row: each byte has eight columns
  module _ (eight : l.fields.slots ≡ 8) (picture : List ℕ) (y : ℕ) (inside : y * row_bytes l + row_bytes l ≤ length picture) (j : ℕ) (h : j < plane_row l) where
    packed_byte : bits_at l.fields.white (part (y * row_bytes l) (y * row_bytes l + row_bytes l) picture) j ≡ written l picture (y * plane_row l + j)
    unfolding bits_at bilevel_plane written
    packed_byte = value_same 2 8 _ _ (λ p q. each p) ∙ sym (picked _ _ (eq-eqb l.fields.slots 8 eight))
      where
        row : List ℕ
        row = part (y * row_bytes l) (y * row_bytes l + row_bytes l) picture

        wide : row_bytes l ≡ l.fields.w
        wide = (bilevel_row eight).0

        long : length row ≡ l.fields.w
        long = length_part (y * row_bytes l) (y * row_bytes l + row_bytes l) picture (omega arith) inside ∙ omega (arith, wide)

        by : (x : ℕ) (b : Bool) → ltb x l.fields.w ≡ b → pick b (bilevel_bit l.fields.white (get_or row x 0)) 0 ≡ pick b (bilevel_bit l.fields.white (get_or picture (y * l.fields.w + x) 0)) 0
        by x true e =
            ap (bilevel_bit l.fields.white) (part_at (y * row_bytes l) (y * row_bytes l + row_bytes l) picture x (omega (arith, wide, ltb-true x l.fields.w e)) ∙ ap (λ (n : ℕ). get_or picture (y * n + x) 0) wide)
        by x false e = refl

        each : (p : ℕ) → pick (ltb (8 * j + (7 - p)) (length row)) (bilevel_bit l.fields.white (get_or row (8 * j + (7 - p)) 0)) 0 ≡ pick (ltb (8 * ((y * plane_row l + j) % l.encoded_width) + (7 - p)) l.fields.w) (bilevel_bit l.fields.white (get_or picture ((y * plane_row l + j) / l.encoded_width * l.fields.w + (8 * ((y * plane_row l + j) % l.encoded_width) + (7 - p))) 0)) 0
        each p =
            let inner : j < l.encoded_width = omega (arith, (bilevel_row eight).1) in
            rw ((bilevel_row eight).1, item_of y l.encoded_width inner, group_of y l.encoded_width inner, long) (by (8 * j + (7 - p)) (ltb (8 * j + (7 - p)) l.fields.w) refl)

  -- a row of samples
  module _ (plain : packed l ≡ false) (interleaved : l.fields.separate ≡ false) (narrow : eqb l.fields.bytes 8 ≡ false) where
    several : eqb l.fields.slots 8 ≡ false
    several = rw (plain-one l s plain).1

    width : OneOrTwo l.fields.bytes
    width = one_or_two l s narrow

    -- in one plane a place takes the byte of the same place, but for the order of a word's bytes
    place_here : (i : ℕ) → place_index l i ≡ high_first l.fields.bytes l.fields.le i
    place_here i =
        let stride = l.fields.ch * l.fields.bytes in
        let whole : i / stride * stride + i % stride ≡ i = div-add-mod' i stride in
        let words_of : i / stride * stride ≡ i / stride * l.fields.ch * l.fields.bytes = sym (mul_assoc (i / stride) l.fields.ch l.fields.bytes) in
        ap (place_index l) (sym whole)
        ∙ together-place l s plain interleaved (i / stride) (i % stride) (mod-lt i (stride_some l s))
        ∙ ap (λ (n : ℕ). n + high_first l.fields.bytes l.fields.le (i % stride)) words_of
        ∙ sym (high_first_in l.fields.bytes width l.fields.le (i / stride * l.fields.ch) (i % stride))
        ∙ ap (high_first l.fields.bytes l.fields.le) (ap (λ (n : ℕ). n + i % stride) (sym words_of) ∙ whole)

    module _ (picture : List ℕ) (y j : ℕ) (h : j < row_bytes l) where
      row-place : place_index l (y * row_bytes l + j) ≡ y * row_bytes l + high_first l.fields.bytes l.fields.le j
      row-place =
          let words_of : y * row_bytes l ≡ y * (l.fields.w * l.fields.ch) * l.fields.bytes = ap (λ (n : ℕ). y * n) (sym (mul_assoc l.fields.w l.fields.ch l.fields.bytes)) ∙ sym (mul_assoc y (l.fields.w * l.fields.ch) l.fields.bytes) in
          place_here (y * row_bytes l + j)
          ∙ ap (λ (n : ℕ). high_first l.fields.bytes l.fields.le (n + j)) words_of
          ∙ high_first_in l.fields.bytes width l.fields.le (y * (l.fields.w * l.fields.ch)) j
          ∙ ap (λ (n : ℕ). n + high_first l.fields.bytes l.fields.le j) (sym words_of)

      over_row : flips l (place_index l (y * row_bytes l + j)) ≡ flips_channel l (j % l.fields.ch)
      unfolding high_first
      over_row = by (eqb l.fields.alpha 0) refl
        where
          by : (b : Bool) → eqb l.fields.alpha 0 ≡ b → (l.fields.white && (b || not (eqb (place_index l (y * row_bytes l + j) % l.fields.ch) (l.fields.ch - 1)))) ≡ (l.fields.white && (b || not (eqb (j % l.fields.ch) (l.fields.ch - 1))))
          by true e = refl
          by false e =
              let one : l.fields.bytes ≡ 1 = alpha_bytes (record_accepted l s) (eqb-false l.fields.alpha 0 e) in
              let here : place_index l (y * row_bytes l + j) ≡ y * l.fields.w * l.fields.ch + j = row-place ∙ rw one (rw (mul-one l.fields.ch, mul_assoc y l.fields.w l.fields.ch)) in
              rw (here, mul-add-mod_self_right (y * l.fields.w) l.fields.ch j)

      plain_byte : flipped (flips_channel l (j % l.fields.ch)) (get_or (part (y * row_bytes l) (y * row_bytes l + row_bytes l) picture) (high_first l.fields.bytes l.fields.le j) 0) ≡ written l picture (y * row_bytes l + j)
      unfolding written
      plain_byte =
          let inside = high_first_below l.fields.bytes width l.fields.le (row_bytes l) j (whole-last l.fields.w l.fields.ch l.fields.bytes) h in
          ap (flipped (flips_channel l (j % l.fields.ch))) (part_at (y * row_bytes l) (y * row_bytes l + row_bytes l) picture (high_first l.fields.bytes l.fields.le j) (omega arith) ∙ ap (λ (k : ℕ). get_or picture k 0) (sym row-place))
          ∙ ap (λ (b : Bool). flipped b (get_or picture (place_index l (y * row_bytes l + j)) 0)) (sym over_row)
          ∙ sym (not_picked _ _ several)

  -- whichever it is
  module _ (narrow : eqb l.fields.bytes 8 ≡ false) where
    row_byte : (picture : List ℕ) (y : ℕ) → y * row_bytes l + row_bytes l ≤ length picture → (j : ℕ) → j < plane_row l → row_at l (part (y * row_bytes l) (y * row_bytes l + row_bytes l) picture) j ≡ written l picture (y * plane_row l + j)
    row_byte picture y inside j h = by shape
      where
        by : (l.fields.slots ≡ 8) ⊎ ((packed l ≡ false) × (l.fields.separate ≡ false)) → row_at l (part (y * row_bytes l) (y * row_bytes l + row_bytes l) picture) j ≡ written l picture (y * plane_row l + j)
        by (inl e) = picked _ _ (eq-eqb l.fields.slots 8 e) ∙ packed_byte e picture y inside j h
        by (inr q) =
            let same = plain_row_same q.0 in
            not_picked _ _ (several q.0 q.1 narrow)
            ∙ plain_byte q.0 q.1 narrow picture y j (omega arith)
            ∙ ap (λ (n : ℕ). written l picture (y * n + j)) (sym same)

-- a row, by itself
module _ {l : RasterLayout} {row old : List ℕ} (fits : RowGiven l row old) where
  pub row-packed : l.fields.slots ≡ 8 → (answer : Done) (new : List ℕ) → BitRow row l.fields.white old answer new → RowWritten l row old new
  row-packed e answer new p =
      let sides = bilevel_row l fits.sound fits.bare fits.together e in
      let enough : eighths (length row) ≡ length old = omega (arith, sides, fits.all, fits.room, bilevel_eighths l fits.sound fits.bare fits.together e) in
      finished (bit_faults row old) tt (eighths (length row)) (bits_at l.fields.white row) old new (next (le-ltb (length old) (eighths (length row)) (omega arith)) none) p
      ∙ filled-all (eighths (length row)) (bits_at l.fields.white row) old (omega arith)
      ∙ ap (λ (n : ℕ). table n (bits_at l.fields.white row)) enough
      ∙ table_same (length old) _ _ (λ j h. sym (picked _ _ (eq-eqb l.fields.slots 8 e)))

  module _ (n : l.fields.slots ≡ 8 → ⊥) where
    not_packed : packed l ≡ false
    not_packed = rw (fits.bare, ne_eqb l.fields.slots 8 n)

    pub plain_fits : PlainFits l row old
    plain_fits =
        record {
          width = one_or_two l fits.sound fits.narrow;
          some = (record_accepted l fits.sound).some;
          words = ap (λ (k : ℕ). k % l.fields.bytes) fits.all ∙ whole-last l.fields.w l.fields.ch l.fields.bytes;
          pixels = ap (λ (k : ℕ). k % l.fields.ch) fits.all ∙ whole_middle l.fields.w l.fields.ch l.fields.bytes;
          room = fits.room ∙ plain_row_same l fits.sound fits.bare fits.together not_packed ∙ sym fits.all;
        }

    pub row_plain : (new : List ℕ) → PlainRowWritten l row old new → RowWritten l row old new
    row_plain new p = p ∙ table_same (length old) _ _ (λ j h. sym (not_picked _ _ (ne_eqb l.fields.slots 8 n)))

-- the loop over the rows
pub record WrittenRows (l : RasterLayout) (picture old : List ℕ) (y : ℕ) (out : List ℕ) : Type 0 where
  pub inside : y ≤ l.fields.h
  pub same : length out ≡ length old
  pub so_far : out ≡ filled (y * plane_row l) (written l picture) old

pub written_none : (l : RasterLayout) (picture old : List ℕ) → WrittenRows l picture old 0 old
written_none l picture old = record { inside = omega arith; same = refl; so_far = rw (zero-mul (plane_row l)) }

module _ {l : RasterLayout} {picture old : List ℕ} {y : ℕ} {out : List ℕ} (fits : Together l picture old) (is : WrittenRows l picture old y out) where
  scratch : l.scratch_len ≡ l.fields.h * plane_row l
  scratch = scratch_rows l fits.served.sound fits.served.bare fits.together

  module _ (more : y < l.fields.h) where
    pub written-room : (y * row_bytes l + row_bytes l ≤ length picture) × ((y * plane_row l + plane_row l ≤ length old) × (y * plane_row l + plane_row l ≤ byte_limit))
    written-room =
        let served = fits.served in
        let read : (y + 1) * row_bytes l ≤ l.fields.h * row_bytes l = mul-le-mul_right (row_bytes l) (omega arith) in
        let wrote : (y + 1) * plane_row l ≤ l.fields.h * plane_row l = mul-le-mul_right (plane_row l) (omega arith) in
        let end : y * plane_row l + plane_row l ≤ l.scratch_len = omega (arith, add-mul y 1 (plane_row l), one-mul (plane_row l), scratch) in
        (omega (arith, add-mul y 1 (row_bytes l), one-mul (row_bytes l), output_rows l served.sound, served.all), (omega (arith, served.room), omega (arith, scratch_limited l served.sound)))

    pub row_fits : RowGiven l (part (y * row_bytes l) (y * row_bytes l + row_bytes l) picture) (part (y * plane_row l) (y * plane_row l + plane_row l) out)
    row_fits =
        record {
          sound = fits.served.sound;
          bare = fits.served.bare;
          narrow = fits.served.narrow;
          together = fits.together;
          all = length_part (y * row_bytes l) (y * row_bytes l + row_bytes l) picture (omega arith) written-room.0 ∙ omega arith;
          room = length_part (y * plane_row l) (y * plane_row l + plane_row l) out (omega arith) (omega (arith, written-room, is.same)) ∙ omega arith;
        }

    pub written_next : (new : List ℕ) → RowWritten l (part (y * row_bytes l) (y * row_bytes l + row_bytes l) picture) (part (y * plane_row l) (y * plane_row l + plane_row l) out) new → WrittenRows l picture old (y + 1) (take (y * plane_row l) out ++ (new ++ drop (y * plane_row l + plane_row l - y * plane_row l) (drop (y * plane_row l) out)))
    written_next new p =
        let at = y * plane_row l in
        let from = y * row_bytes l in
        let long : length (part at (at + plane_row l) out) ≡ at + plane_row l - at = row_fits.room ∙ omega arith in
        let each : (j : ℕ) → j < at + plane_row l - at → row_at l (part from (from + row_bytes l) picture) j ≡ written l picture (at + j) =
        λ j h. row_byte l fits.served.sound fits.served.bare fits.together fits.served.narrow picture y written-room.0 j (omega arith) in
        let all : new ≡ table (at + plane_row l - at) (λ k. written l picture (at + k)) =
        p ∙ ap (λ (n : ℕ). table n (row_at l (part from (from + row_bytes l) picture))) long ∙ table_same (at + plane_row l - at) _ _ each in
        let next : at + plane_row l ≡ (y + 1) * plane_row l = omega (arith, add-mul y 1 (plane_row l), one-mul (plane_row l)) in
        let now = part_filled (written l picture) at (at + plane_row l) old out new (omega arith) is.so_far all ∙ ap (λ (n : ℕ). filled n (written l picture) old) next in
        record { inside = omega arith; same = ap length now ∙ length-filled ((y + 1) * plane_row l) (written l picture) old (omega (arith, written-room)); so_far = now }

  pub written_all : l.fields.h ≤ y → WrittenInto l picture old out
  written_all end =
      let all : y ≡ l.fields.h = omega (arith, is.inside) in
      let whole : y * plane_row l ≡ l.scratch_len = ap (λ (n : ℕ). n * plane_row l) all ∙ sym scratch in
      rw whole at is.so_far
