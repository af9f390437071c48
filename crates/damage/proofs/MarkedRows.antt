-- A row's marks from its own, and the loop over rows: its invariant, how a row keeps it, and what it comes to. Assumes nothing.
use mathlib.Core.Path.{◌≡◌, refl, sym, ap, ◌∙◌}
use mathlib.Core.Bool.{true, false}
use mathlib.Core.List.{List, ◌++◌}
use Prim.Native.Nat.{ℕ, ◌+◌, ◌-◌, ◌*◌, ◌/◌, ◌%◌, ◌≤◌, ◌<◌}
use native.Mathlib.Nat.{zero-add, zero-mul, zero-mod, add-mul, add-mod_right, suc-mul, div-one, mul-le-mul_right, le_of_mul-le-mul_right, eq_of_mul-eq-mul_right}
use native.Mathlib.Omega.{arith}
use borrow.Author.Tests.{not-false}
use lib.ListN.{length, get_or, take, drop}
use Rattle.answer.specs.Table.{table, filled}
use Rattle.answer.proofs.Promised.{sound-here}
use Rattle.answer.proofs.Filling.{part, length_part, part_at, part_filled, length-table, length-filled, filled-all, table_same}
use Rattle.words.specs.Promises.{served}
use Rattle.laws.proofs.Groups.{group_room}
use Rattle.samples.specs.Sample.{strip, Good}
use Rattle.samples.specs.declared.Strip.{Strip}
use Rattle.samples.proofs.Strips.{good_checked, per_row_lem}
use Rattle.damage.specs.Marks.{damaged, struck, marked, mark_byte, counted}
use Rattle.damage.specs.Passes.{Bits, OwnInto, OnwardInto, MarksFit, StripMarksFit, MarkedInto, RowMarked}
use Rattle.damage.proofs.Marking.{struck-same, struck-one, marked-alone, same-marks}
use Rattle.damage.proofs.Loops.{written_bits, table-damaged, counted-table, counted_same, counted_join, counted-most}
use Rattle.damage.proofs.Begins.{row-marks}

-- a row: its own marks m, and what they come to when carried onward
module _ {damage : List ℕ} {channels width : ℕ} {old : List ℕ} (m : List ℕ) (fits : MarksFit damage channels width old) (own : OwnInto damage width old m) where
  own_long : length m ≡ length old
  own_long = ap length own ∙ length-table (length old) _

  pub own_bits : Bits m
  own_bits = written_bits (length old) (struck width damage) m own

  abbrev row : Strip
  row = strip (length damage) channels width

  -- damage of samples of one byte each, they are carried onward as the row's own damage is
  onward_same : (k : ℕ) → k < length old → marked (strip (length m) channels 1) true m k ≡ marked row true damage k
  onward_same k h =
      let per : length m / 1 ≡ length old = div-one (length m) ∙ own_long in
      let same = same-marks (strip (length m) channels 1) row fits.channel refl (per ∙ sym (row-marks fits)) true m damage 0 0 (zero-mod (length m / 1)) (zero-mod (length m / 1)) (λ i l. rw zero-add (struck-one m i ∙ ap (λ (t : List ℕ). damaged t i) own ∙ table-damaged (length old) (struck width damage) i (omega arith))) k (omega arith) in
      rw zero-add at same

  onward_is : (new : List ℕ) → OnwardInto channels m new → new ≡ table (length old) (λ k. mark_byte (marked row true damage k))
  onward_is new e =
      e
      ∙ ap (λ (n : ℕ). table n (λ k. mark_byte (marked (strip (length m) channels 1) true m k))) own_long
      ∙ table_same (length old) _ _ (λ k h. ap mark_byte (onward_same k h))

  pub onward_bits : (new : List ℕ) → OnwardInto channels m new → Bits new
  onward_bits new e = written_bits (length old) (marked row true damage) new (onward_is new e)

  pub row-marked : (new : List ℕ) (count : ℕ) → OnwardInto channels m new → count ≡ counted (length new) (damaged new) → RowMarked damage channels width old count new
  row-marked new count e c = record { marks = onward_is new e; count-is = counted-table (length old) (marked row true damage) count new (onward_is new e) c }

-- what a strip without a fault is
module _ {damage : List ℕ} {g : Strip} {old : List ℕ} (fits : StripMarksFit damage g old) where
  good : Good (length damage) g
  good = good_checked (length damage) g fits.sound

  pub strip-wide : 0 < g.width
  strip-wide = good.wide

  pub strip-long : 0 < g.row
  strip-long = good.long

  pub strip-takes : served g.width ≡ true
  strip-takes = not-false (served g.width) (sound-here fits.sound)

  -- rows of the strip's own length
  pub strip_rows_lem : (row : ℕ) → row ≡ g.row → StripMarksFit damage (strip row g.channels g.width) old
  strip_rows_lem row e = record { sound = rw e fits.sound; each = fits.each }

  -- without prediction a sample's own mark is its mark
  pub marks_bits : (new : List ℕ) → OwnInto damage g.width old new → Bits new
  marks_bits new own = written_bits (length old) (struck g.width damage) new own

  pub own_marked : (count : ℕ) (new : List ℕ) → OwnInto damage g.width old new → count ≡ counted (length new) (damaged new) → MarkedInto damage g false old count new
  own_marked count new own c =
      let marks = own ∙ table_same (length old) _ _ (λ k h. ap mark_byte (sym (marked-alone g false damage k refl))) in
      record { marks = marks; count-is = counted-table (length old) (marked g false damage) count new marks c }

-- the rows marked so far: `at` and n are where the next row and its marks begin
pub record MarkedRows (damage : List ℕ) (g : Strip) (old : List ℕ) (count at n : ℕ) (out : List ℕ) : Type 0 where
  pub inside : at ≤ length damage
  pub rows : at % g.row ≡ 0
  pub place : at ≡ n * g.width
  pub begins : n % (g.row / g.width) ≡ 0
  pub same : length out ≡ length old
  pub so_far : out ≡ filled n (λ k. mark_byte (marked g true damage k)) old
  pub count_so_far : count ≡ counted n (marked g true damage)

pub marked-rows-none : (damage : List ℕ) (g : Strip) (old : List ℕ) → MarkedRows damage g old 0 0 0 old
marked-rows-none damage g old =
    record { inside = omega arith; rows = zero-mod g.row; place = sym (zero-mul g.width); begins = zero-mod (g.row / g.width); same = refl; so_far = refl; count_so_far = refl }

module _ {damage : List ℕ} {g : Strip} {old : List ℕ} {count at n : ℕ} {out : List ℕ} (fits : StripMarksFit damage g old) (is : MarkedRows damage g old count at n out) where
  per_wide : g.row / g.width * g.width ≡ g.row
  per_wide = per_row_lem (length damage) g (good fits)

  module _ (more : at < length damage) where
    pub row_room : at + g.row ≤ length damage
    row_room = group_room g.row (length damage) at (good fits).whole is.rows more

    next_place : at + g.row ≡ (n + g.row / g.width) * g.width
    next_place = rw (add-mul n (g.row / g.width) g.width, per_wide) (omega (arith, is.place))

    pub marks-room : n + g.row / g.width ≤ length old
    marks-room = le_of_mul-le-mul_right {m = n + g.row / g.width} {n = length old} {k = g.width} (omega (arith, next_place, row_room, fits.each)) (good fits).wide

    abbrev row_part : List ℕ
    row_part = part at (at + g.row) damage

    abbrev marks_part : List ℕ
    marks_part = part n (n + g.row / g.width) out

    row-long : length row_part ≡ g.row
    row-long = length_part at (at + g.row) damage (omega arith) row_room ∙ omega arith

    marks-long : length marks_part ≡ n + g.row / g.width - n
    marks-long = length_part n (n + g.row / g.width) out (omega arith) (omega (arith, marks-room, is.same))

    row-each : length row_part ≡ length marks_part * g.width
    row-each = let all : n + g.row / g.width - n ≡ g.row / g.width = omega arith in rw (marks-long, all, per_wide) row-long

    pub row_fits : MarksFit (part at (at + g.row) damage) g.channels g.width (part n (n + g.row / g.width) out)
    row_fits = record { takes = strip-takes fits; channel = (good fits).channel; each = row-each }

    -- the row's marks are the strip's there
    struck-there : (i : ℕ) → i < g.row / g.width → struck g.width row_part (0 + i) ≡ struck g.width damage (n + i)
    struck-there i h =
        let last : i * g.width + g.width ≤ g.row = omega (arith, mul-le-mul_right g.width h, suc-mul i g.width, per_wide) in
        let from : (n + i) * g.width ≡ at + i * g.width = add-mul n i g.width ∙ omega (arith, is.place) in
        rw (zero-add, from) (struck-same g.width row_part damage (i * g.width) (at + i * g.width) (λ p l. part_at at (at + g.row) damage (i * g.width + p) (omega arith) ∙ ap (λ (k : ℕ). get_or damage k 0) (omega arith)))

    marked-there : (i : ℕ) → i < g.row / g.width → marked (strip (length row_part) g.channels g.width) true row_part i ≡ marked g true damage (n + i)
    marked-there i h =
        let same_per : length row_part / g.width ≡ g.row / g.width = ap (λ (x : ℕ). x / g.width) row-long in
        let same = same-marks (strip (length row_part) g.channels g.width) g (good fits).channel refl same_per true row_part damage 0 n (zero-mod (length row_part / g.width)) (rw same_per is.begins) (λ k l. struck-there k (omega arith)) i (omega arith) in
        rw zero-add at same

    pub row_turned : (more_count : ℕ) (new : List ℕ) → RowMarked (part at (at + g.row) damage) g.channels g.width (part n (n + g.row / g.width) out) more_count new → MarkedRows damage g old (count + more_count) (at + g.row) (n + g.row / g.width) (take n out ++ (new ++ drop (n + g.row / g.width - n) (drop n out)))
    row_turned more_count new r =
        let len : n + g.row / g.width - n ≡ g.row / g.width = omega arith in
        let f : ℕ → ℕ = λ k. mark_byte (marked g true damage k) in
        let all : new ≡ table (n + g.row / g.width - n) (λ k. f (n + k)) =
        r.marks
        ∙ ap (λ (x : ℕ). table x (λ k. mark_byte (marked (strip (length row_part) g.channels g.width) true row_part k))) marks-long
        ∙ table_same (n + g.row / g.width - n) _ _ (λ k h. ap mark_byte (marked-there k (omega arith))) in
        let now = part_filled f n (n + g.row / g.width) old out new (omega arith) is.so_far all in
        let added : more_count ≡ counted (g.row / g.width) (λ k. marked g true damage (n + k)) =
        r.count-is ∙ ap (λ (x : ℕ). counted x (marked (strip (length row_part) g.channels g.width) true row_part)) (marks-long ∙ len) ∙ counted_same (g.row / g.width) _ _ marked-there in
        record {
          inside = row_room;
          rows = add-mod_right at g.row ∙ is.rows;
          place = next_place;
          begins = add-mod_right n (g.row / g.width) ∙ is.begins;
          same = ap length now ∙ length-filled (n + g.row / g.width) f old marks-room;
          so_far = now;
          count_so_far = omega (arith, is.count_so_far, added, counted_join n (g.row / g.width) (marked g true damage));
        }

    -- the count has room
    pub count_room : (more_count : ℕ) (new : List ℕ) → RowMarked (part at (at + g.row) damage) g.channels g.width (part n (n + g.row / g.width) out) more_count new → count + more_count ≤ length old
    count_room more_count new r = omega (arith, (row_turned more_count new r).count_so_far, counted-most (n + g.row / g.width) (marked g true damage), marks-room)

  pub rows_ended : length damage ≤ at → MarkedInto damage g true old count out
  rows_ended l =
      let all : n ≡ length old = eq_of_mul-eq-mul_right g.width (good fits).wide n (length old) (omega (arith, is.place, is.inside, fits.each)) in
      record {
        marks = (rw all at is.so_far) ∙ filled-all (length old) _ old (omega arith);
        count-is = rw all at is.count_so_far;
      }
