-- A row's damage from where it begins: sound bytes passed; a damaged sample of each channel, or all that are left; and then every mark of
-- the row: 0 before, 1 from there on. Assumes nothing.
use mathlib.Core.Path.{◌≡◌, refl, sym, ap, ◌∙◌}
use mathlib.Core.Bool.{Bool, true, false, ◌||◌, or-true}
use mathlib.Core.List.{List, ◌++◌}
use Prim.Native.Nat.{ℕ, zero, suc, ◌+◌, ◌-◌, ◌*◌, ◌/◌, ◌%◌, ◌≤◌, ◌<◌}
use native.Mathlib.Nat.{suc-mul, mul-mod_left, mul_comm, mul-le-mul_right, mul-div_cancel, mod-eq_of_lt, div-add-mod', div-mul-le_self, div-le_of_le-mul}
use native.Mathlib.Decide.{dec_lt}
use native.Mathlib.Omega.{arith}
use borrow.Author.Tests.{le-ltb}
use lib.ListN.{length, get_or, take, drop}
use Rattle.answer.specs.Table.{table}
use Rattle.answer.proofs.Filling.{part, length_part, part_at, halfway, front-filled, both_filled, table_same, length-filled}
use Rattle.words.proofs.Served.{served-some}
use Rattle.laws.proofs.Groups.{group_room}
use Rattle.samples.specs.Sample.{strip, alone}
use Rattle.samples.specs.declared.Strip.{Strip}
use Rattle.damage.specs.Marks.{struck_at, struck, marked, mark_byte}
use Rattle.damage.specs.Passes.{SoundTo, FirstDamaged, Words, PixelStruck, since, MarkedFrom, MarksFit, RowMarked}
use Rattle.laws.proofs.Lists.{table-all}
use Rattle.damage.proofs.Marking.{damaged-hurt, struck_where, marked-later, struck-marked, none-marked}
use Rattle.damage.proofs.Loops.{since_before, since-later, counted_same, counted-since}

-- a sound block passed
pub sound-on : (damage : List ℕ) (at end : ℕ) → at ≤ end → end ≤ length damage → SoundTo damage at → SoundTo (part at end damage) (length (part at end damage)) → SoundTo damage end
sound-on damage at end h room before block k l = by (dec_lt k at)
  where
    by : Dec (k < at) → get_or damage k 0 ≡ 0
    by (yes early) = before k early
    by (no late) =
        let there : at + (k - at) ≡ k = omega arith in
        ap (λ (i : ℕ). get_or damage i 0) (sym there) ∙ sym (part_at at end damage (k - at) (omega arith)) ∙ block (k - at) (omega (arith, length_part at end damage h room))

-- 0 written up to a place, then 1 up to the end
pub filled-since : (from : ℕ) (old front back : List ℕ) → from ≤ length old → front ≡ table (length (part 0 from old)) (λ k. 0) → back ≡ table (length (part from (length old) (halfway from old front))) (λ k. 1) → take from (halfway from old front) ++ (back ++ drop (length old - from) (drop from (halfway from old front))) ≡ table (length old) (λ n. mark_byte (since from n))
filled-since from old front back room zeros ones =
    let f : ℕ → ℕ = λ n. mark_byte (since from n) in
    let before = table-all _ (from - 0) 0 (λ k. f (0 + k)) front zeros (length_part 0 from old (omega arith) room) (λ k h. ap mark_byte (since_before from (0 + k) (omega arith))) in
    let long : length (halfway from old front) ≡ length old = ap length (front-filled f from old front before) ∙ length-filled from f old room in
    let after = table-all _ (length old - from) 1 (λ k. f (from + k)) back ones (length_part from (length old) (halfway from old front) room (omega arith)) (λ k h. ap mark_byte (since-later from (from + k) (omega arith))) in
    both_filled f from old front back room before after

-- the samples from `from` on that were found damaged, one of each channel looked at; `at` is where the next begins
pub record Struck (damage : List ℕ) (width from at looked : ℕ) : Type 0 where
  pub place : at ≡ (from + looked) * width
  pub struck_so_far : (n : ℕ) → from ≤ n → n < from + looked → struck width damage n ≡ true

pub struck-none : (damage : List ℕ) (width first : ℕ) → Struck damage width (first / width) (first - first % width) 0
struck-none damage width first =
    let none : first / width + 0 ≡ first / width = omega arith in
    record { place = rw none (omega (arith, div-add-mod' first width)); struck_so_far = λ n h l. absurd (omega arith) }

module _ {damage : List ℕ} {width from at looked : ℕ} (is : Struck damage width from at looked) where
  -- a whole sample is there
  pub struck-room : length damage % width ≡ 0 → at < length damage → at + width ≤ length damage
  struck-room whole more = group_room width (length damage) at whole (rw is.place (mul-mod_left (from + looked) width)) more

  pub struck_turned : struck_at width damage at ≡ true → Struck damage width from (at + width) (looked + 1)
  struck_turned hit =
      let next : from + (looked + 1) ≡ suc (from + looked) = omega arith in
      record {
        place = rw (next, suc-mul (from + looked) width) (omega (arith, is.place));
        struck_so_far = λ n h l. by n h (omega arith) (dec_lt n (from + looked));
      }
    where
      by : (n : ℕ) → from ≤ n → n < suc (from + looked) → Dec (n < from + looked) → struck width damage n ≡ true
      by n h l (yes before) = is.struck_so_far n h before
      by n h l (no after) = let last : n ≡ from + looked = omega arith in rw (last, ← is.place) hit

  -- at the row's end, and with every channel looked at
  pub struck_end : (channels : ℕ) → length damage ≤ at → PixelStruck damage channels width from
  struck_end channels l n h below inside = by (dec_lt n (from + looked))
    where
      by : Dec (n < from + looked) → struck width damage n ≡ true
      by (yes before) = is.struck_so_far n h before
      by (no after) =
          let late : from + looked ≤ n = omega arith in
          absurd (omega (arith, mul-le-mul_right width late, is.place))

  pub struck-all : (channels : ℕ) → channels ≤ looked → PixelStruck damage channels width from
  struck-all channels all n h below inside = is.struck_so_far n h (omega arith)

-- a row has as many marks as samples
pub row-marks : {damage : List ℕ} {channels width : ℕ} {old : List ℕ} → MarksFit damage channels width old → length damage / width ≡ length old
row-marks {damage} {channels} {width} {old} fits = ap (λ (x : ℕ). x / width) fits.each ∙ mul-div_cancel (length old) (served-some width fits.takes).0

-- the marks of a row whose damage begins at a byte, with a damaged sample of each channel from there on
module _ {damage : List ℕ} {channels width : ℕ} {old : List ℕ} {at : ℕ} (fits : MarksFit damage channels width old) (first : FirstDamaged damage at) where
  pub begins-inside : at / width ≤ length old
  begins-inside = div-le_of_le-mul width (omega (arith, first.inside, fits.each, mul_comm width (length old)))

  abbrev row : Strip
  row = strip (length damage) channels width

  pub row_words : Words damage width
  row_words = record { takes = fits.takes; whole = rw fits.each (mul-mod_left (length old) width) }

  unstruck_before : (n : ℕ) → n < at / width → struck width damage n ≡ false
  unstruck_before n h = by (struck width damage n) refl
    where
      by : (b : Bool) → struck width damage n ≡ b → b ≡ false
      by false e = refl
      by true e =
          let hit = struck_where width damage (n * width) e in
          absurd (damaged-hurt damage (n * width + hit.place) hit.holds (first.sound (n * width + hit.place) (omega (arith, hit.below, mul-le-mul_right width h, suc-mul n width, div-mul-le_self at width))))

  module _ (pixel : PixelStruck damage channels width (at / width)) where
    in_row : (n : ℕ) → n < length old → n * width < length damage
    in_row n h = omega (arith, mul-le-mul_right width h, suc-mul n width, served-some width fits.takes, fits.each)

    not_first : (n : ℕ) → n < length old → channels ≤ n → alone row true n ≡ false
    not_first n h d =
        let same : n % (length damage / width) ≡ n = rw (row-marks fits) (mod-eq_of_lt h) in
        rw same (le-ltb n channels d)

    on_upto : (more n : ℕ) → n < more → at / width ≤ n → n < length old → marked row true damage n ≡ true
    on_upto zero n l h below = absurd (omega arith)
    on_upto (suc more) n l h below = by (dec_lt n (at / width + channels)) (on_upto more (n - channels))
      where
        by : Dec (n < at / width + channels) → (n - channels < more → at / width ≤ n - channels → n - channels < length old → marked row true damage (n - channels) ≡ true) → marked row true damage n ≡ true
        by (yes near) back = struck-marked row true damage n (pixel n h near (in_row n below))
        by (no far) back =
            marked-later row true damage n fits.channel (not_first n below (omega arith))
            ∙ ap (λ (b : Bool). struck width damage n || b) (back (omega arith) (omega arith) (omega arith))
            ∙ or-true (struck width damage n)

    marked-since : (n : ℕ) → n < length old → since (at / width) n ≡ marked row true damage n
    marked-since n h = by (dec_lt n (at / width))
      where
        by : Dec (n < at / width) → since (at / width) n ≡ marked row true damage n
        by (yes early) = since_before (at / width) n early ∙ sym (none-marked row true damage n (λ k l. unstruck_before k (omega arith)))
        by (no late) = since-later (at / width) n (omega arith) ∙ sym (on_upto (suc n) n (omega arith) (omega arith) h)

    pub begun-marked : (from : ℕ) → from ≡ at / width → (count : ℕ) (new : List ℕ) → MarkedFrom from old count new → RowMarked damage channels width old count new
    begun-marked from e count new is =
        let same : (n : ℕ) → n < length old → since from n ≡ marked row true damage n = λ n h. ap (λ (k : ℕ). since k n) e ∙ marked-since n h in
        record {
          marks = is.marks ∙ table_same (length old) _ _ (λ k h. ap mark_byte (same k h));
          count-is = is.count-is ∙ sym (counted-since (length old) from) ∙ counted_same (length old) _ _ same;
        }
