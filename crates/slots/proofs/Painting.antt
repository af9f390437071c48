-- The loops over a palette row, for every number of slots; and the byte that they take of the map is the more significant one. Assumes nothing.
use Prim.Native.Nat.{ℕ, ◌+◌, ◌-◌, ◌*◌, ◌/◌, ◌%◌, ◌≤◌, ◌<◌}
use mathlib.Core.Path.{◌≡◌, refl, sym, ap, ◌∙◌}
use mathlib.Core.Bool.{Bool, true, false}
use mathlib.Core.List.{List}
use native.Mathlib.Nat.{mul_left_comm}
use native.Mathlib.Omega.{arith}
use lib.ListN.{length, get_or}
use lib.Dec.{eqb}
use borrow.Author.Tests.{eqb-true, ltb-false, not-false}
use mathlib.Core.Logic.{inl, inr}
use Rattle.answer.specs.Outcome.{pick, Sound, next, none}
use Rattle.layout.specs.Layout.{one_two_eight, colours_of}
use Rattle.layout.proofs.Accepted.{OneTwoEight, one_two_eight_lem}
use Rattle.answer.specs.Table.{filled}
use Rattle.answer.proofs.Filling.{length-stores, stores-filled, filled-same}
use Rattle.words.specs.Word.{Bytes, word_at}
use Rattle.pixels.specs.Render.{high_byte}
use Rattle.slots.specs.Rows.{index_at, palette_at, IndexAt, Painted, painted_at, PaintedInto, PaintFits, palette_faults}

pub colours-few : (slots : ℕ) → (0 < colours_of slots) × (colours_of slots ≤ 256)
colours-few slots = by (eqb slots 8) (eqb slots 2)
  where
    by : (a b : Bool) → (0 < pick a 2 (pick b 16 256)) × (pick a 2 (pick b 16 256) ≤ 256)
    by true b = omega arith
    by false true = omega arith
    by false false = omega arith

-- with no fault all that is read is there
pub paint_fits : (file : List ℕ) (map slots first : ℕ) (raw out : List ℕ) → first ≤ 1 → Sound (palette_faults (length file) map slots (length raw) (length out)) → PaintFits file (map + first) slots raw out
paint_fits file map slots first raw out small (next served (next groups (next within (next bytes none)))) = record {
  served = not-false (one_two_eight slots) served;
  map = omega (arith, ltb-false (length file) (map + 6 * colours_of slots) within, small);
  whole = eqb-true (length out % 3) 0 (not-false (eqb (length out % 3) 0) groups);
  bytes = ltb-false (length raw) ((length out / 3 + slots - 1) / slots) bytes;
}

pub eight_left : (slots : ℕ) → one_two_eight slots ≡ true → (slots ≡ 1 → ⊥) → (slots ≡ 2 → ⊥) → slots ≡ 8
eight_left slots e n m = by ((one_two_eight_lem slots).tells e)
  where
    by : OneTwoEight slots → slots ≡ 8
    by (inl (inl a)) = absurd (n a)
    by (inl (inr a)) = absurd (m a)
    by (inr a) = a

-- the buffer holds the columns before x
pub record Columns (file : List ℕ) (first slots : ℕ) (raw old : List ℕ) (x : ℕ) (out : List ℕ) : Type 0 where
  pub inside : x ≤ length old / 3
  pub same : length out ≡ length old
  pub so_far : out ≡ filled (3 * x) (painted_at file first slots raw) old

pub columns_none : (file : List ℕ) (first slots : ℕ) (raw old : List ℕ) → Columns file first slots raw old 0 old
columns_none file first slots raw old = record { inside = omega arith; same = refl; so_far = refl }

module _ {file : List ℕ} {first slots : ℕ} {raw old : List ℕ} {x : ℕ} {out : List ℕ} (is : Columns file first slots raw old x out) where
  -- a column's three bytes
  pub columns_more : (index : ℕ) (new : List ℕ) → x < length old / 3 → IndexAt slots raw x index → Painted file (first + 2 * index) (2 * colours_of slots) out (3 * x) new → Columns file first slots raw old (x + 1) new
  columns_more index new more i put = record {
    inside = omega arith;
    same = ap length put ∙ length-stores out (3 * x) 3 (λ c. get_or file (first + 2 * index + c * (2 * colours_of slots)) 0) ∙ is.same;
    so_far = put ∙ stores-filled (painted_at file first slots raw) _ old out (3 * x) 3 each (omega arith) is.so_far ∙ ap (λ (n : ℕ). filled n (painted_at file first slots raw) old) on;
  }
    where
      on : 3 * x + 3 ≡ 3 * (x + 1)
      on = omega arith

      each : (c : ℕ) → c < 3 → get_or file (first + 2 * index + c * (2 * colours_of slots)) 0 ≡ painted_at file first slots raw (3 * x + c)
      each c h =
          let column : (3 * x + c) / 3 ≡ x = omega arith in
          let colour : (3 * x + c) % 3 ≡ c = omega arith in
          rw (column, colour, i.0)

  pub columns_all : length old % 3 ≡ 0 → length old / 3 ≤ x → PaintedInto file first slots raw old out
  columns_all whole end = let all : 3 * x ≡ length old = omega (arith, is.inside) in rw all at is.so_far

-- the more significant byte of an entry
high_byte_lem : (file : List ℕ) (place : ℕ) (le : Bool) → Bytes file → word_at file place 2 le / 256 ≡ get_or file (place + high_byte le) 0
high_byte_lem file place true b = omega (arith, b (place + 0), b (place + 1))
high_byte_lem file place false b = omega (arith, b (place + 0), b (place + 1))

painted_palette : (file : List ℕ) (map slots : ℕ) (le : Bool) (raw : List ℕ) (j : ℕ) → Bytes file → painted_at file (map + high_byte le) slots raw j ≡ palette_at file map slots le raw j
unfolding palette_at
painted_palette file map slots le raw j b =
    let index = index_at slots raw (j / 3) in
    let thirds : j % 3 * (2 * colours_of slots) ≡ 2 * (j % 3 * colours_of slots) = mul_left_comm (j % 3) 2 (colours_of slots) in
    let place : map + high_byte le + 2 * index + j % 3 * (2 * colours_of slots) ≡ map + 2 * (j % 3 * colours_of slots + index) + high_byte le = omega arith in
    ap (λ (n : ℕ). get_or file n 0) place ∙ sym (high_byte_lem file (map + 2 * (j % 3 * colours_of slots + index)) le b)

-- so a painted row is the promised one
pub palette_filled : (file : List ℕ) (map slots : ℕ) (le : Bool) (raw old new : List ℕ) → Bytes file → PaintedInto file (map + high_byte le) slots raw old new → new ≡ filled (length old) (palette_at file map slots le raw) old
palette_filled file map slots le raw old new b p = p ∙ filled-same (length old) _ _ old (λ k h. painted_palette file map slots le raw k b)
