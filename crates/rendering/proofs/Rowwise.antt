-- A row of a picture whose bytes are bytes of the planes: where it begins in the planes, and that what is gathered there is the row. Assumes nothing.
use Prim.Native.Nat.{ℕ, ◌+◌, ◌*◌, ◌/◌, ◌%◌, ◌≤◌, ◌<◌}
use mathlib.Core.Path.{◌≡◌, sym, ap, ◌∙◌}
use mathlib.Core.Bool.{Bool, true, false, not}
use mathlib.Core.List.{List}
use native.Mathlib.Nat.{add-mul, one-mul, mul-one, mul_comm, mul_assoc, mul-le-mul_left, mul-le-mul_right, mul-mod_left, mul-div_cancel, div-add-mod', div-lt_iff_lt-mul, mod-lt}
use native.Mathlib.Omega.{arith}
use borrow.Author.Tests.{eq-eqb, le-ltb}
use lib.ListN.{length, get_or}
use Rattle.answer.specs.Outcome.{Sound, pick, next, none, Done}
use Rattle.answer.specs.Table.{table}
use Rattle.answer.proofs.Promised.{finished}
use Rattle.answer.proofs.Filling.{part, length_part, part_at, table_same, filled-all}
use Rattle.words.specs.Word.{Bytes}
use Rattle.words.specs.Promises.{served}
use Rattle.samples.specs.Sample.{word_of, stored_at}
use Rattle.samples.specs.Promises.{reorder_faults, Reordered}
use Rattle.layout.specs.declared.RasterLayout.{RasterLayout}
use Rattle.layout.specs.Layout.{byte_limit, plane_channels, planes, plane_length, scratch_length, high_first, source_index}
use Rattle.layout.proofs.Whole.{record_accepted, record_agreed}
use Rattle.layout.proofs.Placed.{stride_some, plain-one, row_is, high_first-within, scratch_limited}
use Rattle.laws.proofs.Groups.{grouped, whole-last}
use Rattle.pixels.proofs.HighFirst.{narrow-served, one_or_two, high_first_in, stored-high_first}
use Rattle.pixels.proofs.Places.{stride, plane_is, together-is, apart-source, together-source}
use Rattle.pixels.specs.Render.{row_bytes, plane_row, OneOrTwo}
use Rattle.words.proofs.Words.{part_bytes}
use Rattle.laws.proofs.Picks.{xor_false}
use Rattle.rendering.specs.Rows.{PlainRowAsked, Gathered, plane_place, PlanesFit, PlanesInto}

-- words do not cross pixels
high_first_group : {bytes : ℕ} → OneOrTwo bytes → (le : Bool) (ch a c : ℕ) → high_first bytes le (a * (ch * bytes) + c) ≡ a * (ch * bytes) + high_first bytes le c
high_first_group {bytes} w le ch a c = let words : a * ch * bytes ≡ a * (ch * bytes) = mul_assoc a ch bytes in rw (← words) (high_first_in bytes w le (a * ch) c)

module _ {l : RasterLayout} {raw : List ℕ} {y : ℕ} {out : List ℕ} (row : PlainRowAsked l raw y out) where
  pub narrow : OneOrTwo l.fields.bytes
  narrow = one_or_two l row.sound row.bytes

  -- the rows of the picture, and of a plane
  pub row_end : y * row_bytes l + row_bytes l ≤ l.fields.h * row_bytes l
  row_end =
      let all : (y + 1) * row_bytes l ≤ l.fields.h * row_bytes l = mul-le-mul_right (row_bytes l) (omega (arith, row.row)) in
      omega (arith, add-mul y 1 (row_bytes l), one-mul (row_bytes l))

  pub plane_rows : l.plane_len ≡ l.fields.h * plane_row l
  unfolding plane_length
  plane_rows =
      let agreed = record_agreed l row.sound in
      agreed.plane_length_lem
      ∙ ap (λ (n : ℕ). n * l.fields.h * plane_channels l.fields) (sym agreed.encoded_width_lem)
      ∙ ap (λ (n : ℕ). l.encoded_width * l.fields.h * n) (sym agreed.plane_channels_lem)
      ∙ ap (λ (n : ℕ). n * l.plane_channels) (mul_comm l.encoded_width l.fields.h)
      ∙ mul_assoc l.fields.h l.encoded_width l.plane_channels

  pub plane_row_end : y * plane_row l + plane_row l ≤ l.plane_len
  plane_row_end =
      let all : (y + 1) * plane_row l ≤ l.fields.h * plane_row l = mul-le-mul_right (plane_row l) (omega (arith, row.row)) in
      omega (arith, plane_rows, add-mul y 1 (plane_row l), one-mul (plane_row l))

  pub plane_limited : l.plane_len ≤ byte_limit
  unfolding scratch_length planes
  plane_limited =
      let agreed = record_agreed l row.sound in
      let size : l.scratch_len ≡ l.plane_len * l.planes = agreed.scratch_length_lem ∙ ap (λ (n : ℕ). n * planes l.fields) (sym agreed.plane_length_lem) ∙ ap (λ (n : ℕ). l.plane_len * n) (sym agreed.planes) in
      let some : 1 ≤ l.planes = rw agreed.planes (by l.fields.separate) in
      let one : l.plane_len * 1 ≤ l.plane_len * l.planes = mul-le-mul_left l.plane_len some in
      omega (arith, mul-one l.plane_len, scratch_limited l row.sound)
    where
      by : (b : Bool) → 1 ≤ pick b l.fields.ch 1
      by true = (record_accepted l row.sound).some
      by false = omega arith

  -- a pixel of the row, and its byte
  pixel_byte : (j : ℕ) → y * row_bytes l + j ≡ (y * l.fields.w + j / stride l) * stride l + j % stride l
  pixel_byte j = omega (arith, div-add-mod' j (stride l), add-mul (y * l.fields.w) (j / stride l) (stride l), mul_assoc y l.fields.w (stride l))

  byte_within : (j : ℕ) → j % stride l < stride l
  byte_within j = mod-lt j (stride_some l row.sound)

  module _ (e : l.fields.separate ≡ true) where
    row_apart : plane_row l ≡ l.fields.w * l.fields.bytes
    unfolding plane_channels
    row_apart =
        let bytes : l.plane_channels ≡ l.fields.bytes = rw ((plain-one l row.sound row.plain).0, e) at (record_agreed l row.sound).plane_channels_lem in
        ap (λ (n : ℕ). n * l.plane_channels) (row_is l row.sound row.plain) ∙ ap (λ (n : ℕ). l.fields.w * n) bytes

    pub planes-fit : PlanesFit raw l.plane_len (y * plane_row l) l.fields.ch l.fields.bytes out
    planes-fit =
        let wide : length out / (l.fields.ch * l.fields.bytes) ≡ l.fields.w = ap (λ (n : ℕ). n / (l.fields.ch * l.fields.bytes)) row.room ∙ mul-div_cancel l.fields.w (stride_some l row.sound) in
        let both = (plane_is l row.sound row.plain e).1 in
        record {
          some = (record_accepted l row.sound).some;
          few = (record_accepted l row.sound).few;
          width = narrow;
          pixels = rw row.room (mul-mod_left l.fields.w (l.fields.ch * l.fields.bytes));
          inside = rw wide (omega (arith, plane_row_end, row_apart));
          planes = omega (arith, both, row.planes);
          limited = omega (arith, both, scratch_limited l row.sound);
        }

    pub planes_gathered : (new : List ℕ) → PlanesInto raw l.plane_len (y * plane_row l) l.fields.ch l.fields.bytes l.fields.le out new → Gathered l raw y out new
    planes_gathered new p = p ∙ table_same (length out) _ _ (λ j h. ap (λ (i : ℕ). get_or raw i 0) (sym (at j)))
      where
        at : (j : ℕ) → source_index l (y * row_bytes l + j) ≡ plane_place l.plane_len (y * plane_row l + j / (l.fields.ch * l.fields.bytes) * l.fields.bytes) l.fields.bytes l.fields.le (j % (l.fields.ch * l.fields.bytes))
        at j =
            let c = high_first l.fields.bytes l.fields.le (j % stride l) in
            let from : (y * l.fields.w + j / stride l) * l.fields.bytes ≡ y * plane_row l + j / stride l * l.fields.bytes = add-mul (y * l.fields.w) (j / stride l) l.fields.bytes ∙ ap (λ (n : ℕ). n + j / stride l * l.fields.bytes) (mul_assoc y l.fields.w l.fields.bytes ∙ ap (λ (n : ℕ). y * n) (sym row_apart)) in
            ap (source_index l) (pixel_byte j)
            ∙ apart-source l row.sound row.plain e (y * l.fields.w + j / stride l) (j % stride l) (byte_within j)
            ∙ ap (λ (n : ℕ). c / l.fields.bytes * l.plane_len + (n + c % l.fields.bytes)) from

  module _ (e : l.fields.separate ≡ false) where
    row-together : plane_row l ≡ row_bytes l
    unfolding plane_channels
    row-together =
        let bytes : l.plane_channels ≡ l.fields.ch * l.fields.bytes = rw ((plain-one l row.sound row.plain).0, e) at (record_agreed l row.sound).plane_channels_lem in
        ap (λ (n : ℕ). n * l.plane_channels) (row_is l row.sound row.plain) ∙ ap (λ (n : ℕ). l.fields.w * n) bytes

    pub part_inside : y * plane_row l + length out ≤ length raw
    part_inside =
        let size : l.scratch_len ≡ l.fields.h * row_bytes l = together-is l row.sound row.plain e ∙ ap (λ (n : ℕ). n * (l.fields.ch * l.fields.bytes)) (mul_comm l.fields.w l.fields.h) ∙ mul_assoc l.fields.h l.fields.w (l.fields.ch * l.fields.bytes) in
        rw row-together (omega (arith, row_end, row.room, row.planes))

    -- the row's own bytes
    mine : List ℕ
    mine = part (y * plane_row l) (y * plane_row l + length out) raw

    long : length mine ≡ length out
    unfolding mine
    long = length_part (y * plane_row l) (y * plane_row l + length out) raw (omega arith) part_inside ∙ omega arith

    high_first-inside : (j : ℕ) → j < length out → high_first l.fields.bytes l.fields.le j < length out
    high_first-inside j h =
        let c = high_first l.fields.bytes l.fields.le (j % stride l) in
        let there : high_first l.fields.bytes l.fields.le j ≡ j / stride l * stride l + c = ap (high_first l.fields.bytes l.fields.le) (sym (div-add-mod' j (stride l))) ∙ high_first_group narrow l.fields.le l.fields.ch (j / stride l) (j % stride l) in
        let pixel : j / stride l < l.fields.w = (div-lt_iff_lt-mul (stride_some l row.sound)).1 (omega (arith, row.room)) in
        omega (arith, there, row.room, grouped pixel (high_first-within l row.sound (j % stride l) (byte_within j)))

    at : (j : ℕ) → source_index l (y * row_bytes l + j) ≡ y * plane_row l + high_first l.fields.bytes l.fields.le j
    at j =
        let c = high_first l.fields.bytes l.fields.le (j % stride l) in
        let there : high_first l.fields.bytes l.fields.le j ≡ j / stride l * stride l + c = ap (high_first l.fields.bytes l.fields.le) (sym (div-add-mod' j (stride l))) ∙ high_first_group narrow l.fields.le l.fields.ch (j / stride l) (j % stride l) in
        ap (source_index l) (pixel_byte j)
        ∙ together-source l row.sound row.plain e (y * l.fields.w + j / stride l) (j % stride l) (byte_within j)
        ∙ omega (arith, there, row-together, add-mul (y * l.fields.w) (j / stride l) (stride l), mul_assoc y l.fields.w (stride l), ap (λ (n : ℕ). y * n) row-together)

    pub together_gathered : (answer : Done) (new : List ℕ) → Bytes raw → Reordered (part (y * plane_row l) (y * plane_row l + length out) raw) l.fields.bytes l.fields.le false out answer new → Gathered l raw y out new
    unfolding mine
    together_gathered answer new b p =
        let width : served l.fields.bytes ≡ true = narrow-served narrow in
        let whole : length mine % l.fields.bytes ≡ 0 = rw (long, row.room) (whole-last l.fields.w l.fields.ch l.fields.bytes) in
        let sound : Sound (reorder_faults mine l.fields.bytes out) = next (ap not width) (next (ap not (eq-eqb _ _ whole)) (next (le-ltb (length out) (length mine) (omega (arith, long))) none)) in
        finished (reorder_faults mine l.fields.bytes out) tt (length mine) (stored_at l.fields.bytes false (word_of l.fields.bytes l.fields.le mine)) out new sound p
        ∙ filled-all (length mine) _ out (omega (arith, long))
        ∙ ap (λ (n : ℕ). table n (stored_at l.fields.bytes false (word_of l.fields.bytes l.fields.le mine))) long
        ∙ table_same (length out) _ _ (λ j h.
        stored-high_first mine (part_bytes (y * plane_row l) (y * plane_row l + length out) raw b) narrow l.fields.le false j
        ∙ ap (λ (d : Bool). get_or mine (high_first l.fields.bytes d j) 0) (xor_false l.fields.le)
        ∙ part_at (y * plane_row l) (y * plane_row l + length out) raw (high_first l.fields.bytes l.fields.le j) (omega (arith, high_first-inside j h))
        ∙ ap (λ (i : ℕ). get_or raw i 0) (sym (at j)))
