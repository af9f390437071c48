-- The rows of one strip after another, and bytes of the first. Assumes nothing.
use Prim.Native.Nat.{ℕ, zero, suc, ◌+◌, ◌-◌, ◌*◌, ◌%◌, ◌≤◌, ◌<◌}
use mathlib.Core.Path.{◌≡◌, refl, sym, ap, ◌∙◌}
use native.Mathlib.Decide.{dec_lt}
use native.Mathlib.Nat.{add-mul, add-zero, mod-lt, mul-le-mul_right, one-mul, zero-mod, zero-mul}
use native.Mathlib.Omega.{arith}
use borrow.Author.Tests.{lt-ltb, le-ltb, eq-eqb, ne_eqb}
use lib.Dec.{ltb, eqb}
use Rattle.answer.specs.Outcome.{pick}
use Rattle.layout.specs.declared.Fields.{Fields}
use Rattle.tags.specs.Tags.{strips_per_plane}
use Rattle.directory.specs.Page.{smaller, strip_rows}
use Rattle.directory.proofs.Theorems.{enough, most}
use Rattle.directory.proofs.Turning.{turn_on}
use Rattle.files.specs.declared.plan.Plan.{Plan}
use Rattle.files.specs.File.{row_bytes, strips, strip_bytes, in_entry, offsets_place, counts_place, planes_place, offsets_last, counts_last}
use Rattle.files.proofs.Writing.{Laid}

pub smaller-within : (a b : ℕ) → smaller a b ≤ a
smaller-within a b = by (dec_lt a b)
  where
    by : Dec (a < b) → smaller a b ≤ a
    by (yes l) = rw (lt-ltb a b l) (omega arith)
    by (no g) = rw (le-ltb a b (omega arith)) (omega arith)

-- a strip finds left what those before it leave of its plane
abbrev pub rows_left : ℕ → ℕ → ℕ → ℕ
rows_left rows each k = rows - k % strips_per_plane rows each * each

-- strip t of per in a plane: where another follows it leaves rows, and the last leaves none
after : (rows each per t : ℕ) → 0 < each → rows ≤ per * each → per * each ≤ rows + (each - 1) → t < per → pick (ltb each (rows - t * each)) (rows - t * each - each) rows ≡ rows - pick (eqb (t + 1) per) 0 (t + 1) * each
after rows each per t some enough most h = by (dec_lt (t + 1) per)
  where
    more : (t + 1) * each ≡ t * each + each
    more = add-mul t 1 each ∙ ap (λ (m : ℕ). t * each + m) (one-mul each)

    by : Dec (t + 1 < per) → pick (ltb each (rows - t * each)) (rows - t * each - each) rows ≡ rows - pick (eqb (t + 1) per) 0 (t + 1) * each
    by (yes l) =
        let next : t + 1 + 1 ≤ per = omega arith in
        let room : t * each + each + each ≤ per * each = omega (arith, mul-le-mul_right each next, add-mul (t + 1) 1 each, one-mul each, more) in
        rw (lt-ltb each (rows - t * each) (omega arith), ne_eqb (t + 1) per (λ e. omega arith)) (omega (arith, more))
    by (no g) =
        let last : t + 1 ≡ per = omega arith in
        let all : rows ≤ t * each + each = omega (arith, more, ap (λ (m : ℕ). m * each) last) in
        rw (le-ltb each (rows - t * each) (omega arith), eq-eqb (t + 1) per last) (omega (arith, zero-mul each))

pub left-next : (rows each k : ℕ) → 0 < each → 0 < rows → pick (ltb each (rows_left rows each k)) (rows_left rows each k - each) rows ≡ rows_left rows each (k + 1)
left-next rows each k some high =
    let per = strips_per_plane rows each in
    after rows each per (k % per) some (enough rows each some) (most rows each) (mod-lt k (positive_per per (enough rows each some))) ∙ ap (λ (t : ℕ). rows - t * each) (turn_on k per (k % per) refl)
  where
    positive_per : (per : ℕ) → rows ≤ per * each → 0 < per
    positive_per zero h = absurd (omega (arith, zero-mul each))
    positive_per (suc per) h = omega arith

-- the first strip finds all rows
pub first-left : (rows each : ℕ) → rows_left rows each 0 ≡ rows
first-left rows each = rw (zero-mod (strips_per_plane rows each), zero-mul each) (omega arith)

-- the bytes of a strip, by the rows that it finds
pub strip-left : (f : Fields) (each k left : ℕ) → left ≡ rows_left f.h each k → smaller each left * row_bytes f ≡ strip_bytes f each k
unfolding strip_bytes strip_rows
strip-left f each k left e = ap (λ (n : ℕ). smaller each n * row_bytes f) e

-- the one strip's place and bytes, or where those of all stand
module _ {f : Fields} {p : Plan} (l : Laid f p) where
  pub offsets_last_lem : pick (in_entry 4 p.strips) p.planes p.offsets ≡ offsets_last f p.each
  unfolding offsets_last
  offsets_last_lem =
      rw (l.strips_said, l.planes, l.offsets)
      (ap (λ (n : ℕ). pick (in_entry 4 (strips f p.each)) n (offsets_place f)) (sym (add-zero (planes_place f p.each))))

  pub counts_last_lem : pick (in_entry 4 p.strips) (smaller p.each p.rows * p.row) p.counts ≡ counts_last f p.each
  unfolding counts_last
  counts_last_lem =
      rw (l.strips_said, l.rows, l.row, l.counts)
      (ap (λ (n : ℕ). pick (in_entry 4 (strips f p.each)) n (counts_place f p.each)) (strip-left f p.each 0 f.h (sym (first-left f.h p.each))))
