-- The loop over a picture's rows: its invariant, how a row keeps it, and what it comes to. Assumes nothing.
use Prim.Native.Nat.{ℕ, ◌+◌, ◌-◌, ◌*◌, ◌≤◌, ◌<◌}
use mathlib.Core.Path.{◌≡◌, refl, sym, ap, ◌∙◌}
use mathlib.Core.List.{List, ◌++◌}
use mathlib.Core.Bool.{false}
use borrow.Author.Tests.{ltb-false}
use lib.Dec.{eqb}
use Rattle.answer.specs.Outcome.{Sound, next, none}
use Rattle.answer.proofs.Promised.{sound-front, sound_back}
use Rattle.laws.proofs.Picks.{not_picked}
use native.Mathlib.Nat.{add-mul, one-mul, zero-mul, mul-le-mul_right}
use native.Mathlib.Omega.{arith}
use lib.ListN.{length, take, drop}
use Rattle.answer.specs.Table.{table, filled}
use Rattle.answer.proofs.Filling.{table_same, part, length_part, part_filled, length-filled}
use Rattle.layout.specs.declared.RasterLayout.{RasterLayout}
use Rattle.layout.specs.Layout.{byte_limit, packed, colours, record_faults}
use Rattle.layout.proofs.Whole.{record_accepted, record_agreed}
use Rattle.pixels.specs.Render.{row_bytes, converted, draw_faults, render_faults}
use Rattle.pixels.proofs.Places.{output_rows}
use Rattle.slots.proofs.Painting.{colours-few}
use Rattle.laws.proofs.Says.{inside_if}
use Rattle.rendering.specs.Rows.{PlainRowAsked, PlainRendered, RenderServed, RowAsked, RowRendered, RowsRendered}

pub record RenderedRows (l : RasterLayout) (file raw old : List ℕ) (y : ℕ) (out : List ℕ) : Type 0 where
  pub inside : y ≤ l.fields.h
  pub same : length out ≡ length old
  pub so_far : out ≡ filled (y * row_bytes l) (converted l file raw) old

pub rendered_none : (l : RasterLayout) (file raw old : List ℕ) → RenderedRows l file raw old 0 old
rendered_none l file raw old = record { inside = omega arith; same = refl; so_far = rw (zero-mul (row_bytes l)) }

module _ {l : RasterLayout} {file raw old : List ℕ} (served : RenderServed l file raw old) where
  -- no product wraps
  pub row_small : (l.fields.ch * l.fields.bytes ≤ row_bytes l) × (row_bytes l ≤ byte_limit)
  row_small =
      let shown = record_accepted l served.sound in
      let pixel : 1 * (l.fields.ch * l.fields.bytes) ≤ l.fields.w * (l.fields.ch * l.fields.bytes) = mul-le-mul_right (l.fields.ch * l.fields.bytes) shown.wide in
      let one : 1 * row_bytes l ≤ l.fields.h * row_bytes l = mul-le-mul_right (row_bytes l) shown.high in
      (omega (arith, one-mul (l.fields.ch * l.fields.bytes)), omega (arith, one-mul (row_bytes l), output_rows l served.sound, (record_agreed l served.sound).output_length_lem, shown.size))

  module _ {y : ℕ} {out : List ℕ} (is : RenderedRows l file raw old y out) where
    module _ (more : y < l.fields.h) where
      pub rendered_room : y * row_bytes l + row_bytes l ≤ l.output_len
      rendered_room =
          let all : (y + 1) * row_bytes l ≤ l.fields.h * row_bytes l = mul-le-mul_right (row_bytes l) (omega arith) in
          omega (arith, output_rows l served.sound, add-mul y 1 (row_bytes l), one-mul (row_bytes l))

      wide : length (part (y * row_bytes l) (y * row_bytes l + row_bytes l) out) ≡ y * row_bytes l + row_bytes l - y * row_bytes l
      wide = length_part (y * row_bytes l) (y * row_bytes l + row_bytes l) out (omega arith) (omega (arith, rendered_room, is.same, served.room))

      pub row_of : RowAsked l file raw y (part (y * row_bytes l) (y * row_bytes l + row_bytes l) out)
      row_of = record { sound = served.sound; bytes = served.bytes; map = served.map; planes = served.planes; row = more; room = wide ∙ omega arith }

      pub rendered_next : (new : List ℕ) → RowRendered l file raw y (part (y * row_bytes l) (y * row_bytes l + row_bytes l) out) new → RenderedRows l file raw old (y + 1) (take (y * row_bytes l) out ++ (new ++ drop (y * row_bytes l + row_bytes l - y * row_bytes l) (drop (y * row_bytes l) out)))
      rendered_next new p =
          let at = y * row_bytes l in
          let f = converted l file raw in
          let all : new ≡ table (at + row_bytes l - at) (λ k. f (at + k)) = p ∙ ap (λ (n : ℕ). table n (λ j. f (at + j))) wide in
          let next : at + row_bytes l ≡ (y + 1) * row_bytes l = omega (arith, add-mul y 1 (row_bytes l), one-mul (row_bytes l)) in
          let now = part_filled f at (at + row_bytes l) old out new (omega arith) is.so_far all ∙ ap (λ (n : ℕ). filled n f old) next in
          record { inside = omega arith; same = ap length now ∙ length-filled ((y + 1) * row_bytes l) f old (omega (arith, rendered_room, served.room)); so_far = now }

    pub rendered_all : l.fields.h ≤ y → RowsRendered l file raw old out
    rendered_all end =
        let last : y ≡ l.fields.h = omega (arith, is.inside) in
        is.so_far ∙ ap (λ (n : ℕ). filled n (converted l file raw) old) (ap (λ (n : ℕ). n * row_bytes l) last ∙ sym (output_rows l served.sound))

-- a row whose bytes are bytes of the planes
pub plain_row_of : {l : RasterLayout} {file raw : List ℕ} {y : ℕ} {out : List ℕ} → RowAsked l file raw y out → packed l ≡ false → PlainRowAsked l raw y out
plain_row_of row e = record { sound = row.sound; bytes = row.bytes; planes = row.planes; plain = e; row = row.row; room = row.room }

pub plain_row_rendered : (l : RasterLayout) (file raw : List ℕ) (y : ℕ) (out new : List ℕ) → l.fields.palette ≡ false → eqb l.fields.slots 8 ≡ false → PlainRendered l raw y out new → RowRendered l file raw y out new
unfolding converted
plain_row_rendered l file raw y out new off several p = p ∙ table_same (length out) _ _ (λ j h. sym (not_picked _ _ off ∙ not_picked _ _ several))

-- a palette has few colours
pub record_colours : (l : RasterLayout) → Sound (record_faults l) → l.colors ≤ 256
unfolding colours
record_colours l s = rw (record_agreed l s).colours (colours-few l.fields.slots).1

-- what a call without a fault may take for granted
pub render_served : (l : RasterLayout) (file raw out : List ℕ) → Sound (render_faults l file raw out) → RenderServed l file raw out
render_served l file raw out s = by (sound_back (record_faults l) (draw_faults l (length file) (length raw) (length out)) s)
  where
    by : Sound (draw_faults l (length file) (length raw) (length out)) → RenderServed l file raw out
    by (next bytes (next map (next planes (next room none)))) =
        record {
          sound = sound-front (record_faults l) (draw_faults l (length file) (length raw) (length out)) s;
          bytes = bytes;
          map = inside_if l.fields.palette (length file) (l.fields.map + 6 * l.colors) map;
          planes = ltb-false (length raw) l.scratch_len planes;
          room = ltb-false (length out) l.output_len room;
        }
