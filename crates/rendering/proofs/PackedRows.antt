-- A row of a picture whose bytes of the planes hold several samples or places of the map: where it begins in the planes, and that what `packed` makes of
-- it is the row. Assumes nothing.
use Prim.Native.Nat.{ℕ, ◌+◌, ◌-◌, ◌*◌, ◌/◌, ◌%◌, ◌^◌, ◌≤◌, ◌<◌}
use mathlib.Core.Path.{◌≡◌, sym, ap, ◌∙◌}
use mathlib.Core.Bool.{true, false, not}
use mathlib.Core.List.{List}
use native.Mathlib.Nat.{add-mul, one-mul, mul-one, mul_comm, mul_assoc, mul-le-mul_right, mul-mod_left, mul-div_cancel, add-div_right}
use native.Mathlib.Omega.{arith}
use borrow.Author.Tests.{eq-eqb, le-ltb}
use lib.ListN.{length, get_or}
use Rattle.answer.specs.Outcome.{Sound, next, none, Done}
use Rattle.answer.proofs.Promised.{finished}
use Rattle.answer.proofs.Filling.{part, length_part, part_at, table_same, filled-all}
use Rattle.words.specs.Word.{word_at}
use Rattle.layout.specs.declared.RasterLayout.{RasterLayout}
use Rattle.layout.specs.Layout.{colours_of, byte_limit, encoded_width, colours, packed, packed_index, source_index}
use Rattle.laws.proofs.Says.{held}
use Rattle.layout.proofs.Accepted.{one_two_eight_lem, up_to_eight, bilevel}
use Rattle.layout.proofs.Whole.{record_accepted, record_agreed}
use Rattle.layout.proofs.Placed.{scratch_is, packed-one, row_within, scratch_limited}
use Rattle.pixels.specs.Render.{row_bytes, source, slot_shift, map_byte, palette_index, bilevel_byte, converted}
use Rattle.laws.proofs.Groups.{group_of, item_of}
use Rattle.pixels.proofs.Undo.{bilevel_converted}
use Rattle.laws.proofs.Picks.{picked}
use Rattle.slots.specs.Rows.{bilevel_at, bilevel_faults, BilevelRow, palette_at, palette_faults, PaletteRow}
use Rattle.rendering.specs.Rows.{RowAsked, RowRendered}

module _ {l : RasterLayout} {file raw : List ℕ} {y : ℕ} {out : List ℕ} (row : RowAsked l file raw y out) (is : packed l ≡ true) where
  pub packed_row_end : y * l.encoded_width + l.encoded_width ≤ l.scratch_len
  packed_row_end =
      let all : (y + 1) * l.encoded_width ≤ l.fields.h * l.encoded_width = mul-le-mul_right l.encoded_width (omega (arith, row.row)) in
      let size : l.scratch_len ≡ l.encoded_width * l.fields.h = scratch_is l row.sound ∙ ap (λ (n : ℕ). l.encoded_width * l.fields.h * n) (packed-one l row.sound is).1 ∙ mul-one (l.encoded_width * l.fields.h) in
      omega (arith, add-mul y 1 l.encoded_width, one-mul l.encoded_width, mul_comm l.encoded_width l.fields.h)

  pub packed-limited : l.scratch_len ≤ byte_limit
  packed-limited = scratch_limited l row.sound

  -- the row's own bytes
  abbrev mine : List ℕ
  mine = part (y * l.encoded_width) (y * l.encoded_width + l.encoded_width) raw

  long : length mine ≡ l.encoded_width
  long = length_part (y * l.encoded_width) (y * l.encoded_width + l.encoded_width) raw (omega arith) (omega (arith, packed_row_end, row.planes)) ∙ omega arith

  mine_at : (i : ℕ) → i < l.encoded_width → get_or mine i 0 ≡ get_or raw (y * l.encoded_width + i) 0
  mine_at i h = part_at (y * l.encoded_width) (y * l.encoded_width + l.encoded_width) raw i (omega arith)

  encoded : l.encoded_width ≡ (l.fields.w - 1) / l.fields.slots + 1
  unfolding encoded_width
  encoded = (record_agreed l row.sound).encoded_width_lem

  module _ (e : l.fields.palette ≡ true) where
    three : row_bytes l ≡ l.fields.w * 3
    three =
        let m = (record_accepted l row.sound).mapped e in
        ap (λ (n : ℕ). l.fields.w * n) (ap (λ (n : ℕ). n * l.fields.bytes) m.0.0.0.0 ∙ ap (λ (n : ℕ). 3 * n) m.0.0.0.1)

    colours_are : l.colors ≡ colours_of l.fields.slots
    unfolding colours
    colours_are = (record_agreed l row.sound).colours

    columns : length out / 3 ≡ l.fields.w
    columns = ap (λ (n : ℕ). n / 3) (row.room ∙ three) ∙ mul-div_cancel l.fields.w (omega arith)

    palette_sound : Sound (palette_faults (length file) l.fields.map l.fields.slots (length mine) (length out))
    palette_sound =
        let slots = (record_accepted l row.sound).slots in
        let some = (up_to_eight slots).0 in
        let whole : length out % 3 ≡ 0 = ap (λ (n : ℕ). n % 3) (row.room ∙ three) ∙ mul-mod_left l.fields.w 3 in
        let wide = (record_accepted l row.sound).wide in
        let width : (length out / 3 + l.fields.slots - 1) / l.fields.slots ≡ length mine =
        ap (λ (n : ℕ). (n + l.fields.slots - 1) / l.fields.slots) columns ∙ ap (λ (n : ℕ). n / l.fields.slots) {x = l.fields.w + l.fields.slots - 1} {y = l.fields.w - 1 + l.fields.slots} (omega arith) ∙ add-div_right (l.fields.w - 1) some ∙ sym encoded ∙ sym long in
        next (held ((one_two_eight_lem l.fields.slots).told slots))
        (next (ap not (eq-eqb _ _ whole))
        (next (le-ltb (length file) (l.fields.map + 6 * colours_of l.fields.slots) (omega (arith, row.map e, colours_are)))
        (next (le-ltb (length mine) ((length out / 3 + l.fields.slots - 1) / l.fields.slots) (omega (arith, width))) none)))

    palette_byte : (j : ℕ) → j < length out → palette_at file l.fields.map l.fields.slots l.fields.le mine j ≡ converted l file raw (y * row_bytes l + j)
    unfolding palette_at converted packed_index
    palette_byte j h =
        let k = y * row_bytes l + j in
        let column : j / 3 < l.fields.w = omega (arith, columns, row.room, three) in
        let pixel : k / 3 ≡ y * l.fields.w + j / 3 = omega (arith, ap (λ (n : ℕ). y * n) three, mul_assoc y l.fields.w 3) in
        let colour : k % 3 ≡ j % 3 = omega (arith, ap (λ (n : ℕ). y * n) three, mul_assoc y l.fields.w 3) in
        let line : k / 3 / l.fields.w ≡ y = ap (λ (n : ℕ). n / l.fields.w) pixel ∙ group_of y l.fields.w column in
        let across : k / 3 % l.fields.w ≡ j / 3 = ap (λ (n : ℕ). n % l.fields.w) pixel ∙ item_of y l.fields.w column in
        let index : source_index l k ≡ y * l.encoded_width + j / 3 / l.fields.slots =
        picked _ _ is
        ∙ ap (λ (c : ℕ). k / c / l.fields.w * l.encoded_width + k / c % l.fields.w / l.fields.slots) ((record_accepted l row.sound).mapped e).0.0.0.0
        ∙ ap (λ (n : ℕ). n * l.encoded_width + k / 3 % l.fields.w / l.fields.slots) line
        ∙ ap (λ (n : ℕ). y * l.encoded_width + n / l.fields.slots) across in
        let byte : source l raw k ≡ get_or mine (j / 3 / l.fields.slots) 0 = ap (λ (i : ℕ). get_or raw i 0) index ∙ sym (mine_at (j / 3 / l.fields.slots) (row_within l row.sound (j / 3) column)) in
        sym
        (picked _ _ e
        ∙ ap (λ (c : ℕ). map_byte l file c (palette_index l (k / 3 % l.fields.w) (source l raw k))) colour
        ∙ ap (λ (x : ℕ). map_byte l file (j % 3) (palette_index l x (source l raw k))) across
        ∙ ap (λ (v : ℕ). map_byte l file (j % 3) (palette_index l (j / 3) v)) byte
        ∙ ap (λ (n : ℕ). word_at file (l.fields.map + 2 * (j % 3 * n + get_or mine (j / 3 / l.fields.slots) 0 / 2 ^ slot_shift l.fields.slots (j / 3 % l.fields.slots) % n)) 2 l.fields.le / 256) colours_are)

    pub palette_rendered : (answer : Done) (new : List ℕ) → PaletteRow file l.fields.map l.fields.slots l.fields.le mine out answer new → RowRendered l file raw y out new
    palette_rendered answer new p =
        finished (palette_faults (length file) l.fields.map l.fields.slots (length mine) (length out)) tt (length out) (palette_at file l.fields.map l.fields.slots l.fields.le mine) out new palette_sound p
        ∙ filled-all (length out) _ out (omega arith)
        ∙ table_same (length out) _ _ palette_byte

  module _ (off : l.fields.palette ≡ false) (eight : l.fields.slots ≡ 8) where
    one : row_bytes l ≡ l.fields.w
    one =
        let b = (bilevel (record_accepted l row.sound) off eight).0 in
        ap (λ (n : ℕ). l.fields.w * n) (ap (λ (n : ℕ). n * l.fields.bytes) b.0 ∙ ap (λ (n : ℕ). 1 * n) b.1) ∙ mul-one l.fields.w

    pub bilevel_rendered : (answer : Done) (new : List ℕ) → BilevelRow mine l.fields.white out answer new → RowRendered l file raw y out new
    unfolding bilevel_at
    bilevel_rendered answer new p =
        let width : length mine ≡ (l.fields.w - 1) / 8 + 1 = long ∙ encoded ∙ ap (λ (n : ℕ). (l.fields.w - 1) / n + 1) eight in
        finished (bilevel_faults mine out) tt (length out) (bilevel_at l.fields.white mine) out new (next (le-ltb (length mine) ((length out + 7) / 8) (omega (arith, width, row.room, one))) none) p
        ∙ filled-all (length out) _ out (omega arith)
        ∙ table_same (length out) _ _ (λ x h.
        let column : x < l.fields.w = omega (arith, row.room, one) in
        let room : x / 8 < l.encoded_width = rw eight at (row_within l row.sound x column) in
        ap (bilevel_byte l.fields.white x) (mine_at (x / 8) room)
        ∙ sym (bilevel_converted l row.sound off eight file raw y x column)
        ∙ ap (λ (n : ℕ). converted l file raw (y * n + x)) (sym one))
