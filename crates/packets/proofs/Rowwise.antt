-- Words with prediction, row by row: up to the end of a begun row, whole rows, and the words of the next. Assumes nothing.
use mathlib.Core.Path.{◌≡◌, refl, sym, ap, ◌∙◌}
use mathlib.Core.List.{List}
use Prim.Native.Nat.{ℕ, ◌+◌, ◌-◌, ◌*◌, ◌/◌, ◌%◌, ◌≤◌, ◌<◌}
use native.Mathlib.Nat.{div-add-mod', mod-lt, mod-le, mod-add-mod, mod_self, mul-mod_left, add-mul-mod_self_right, mod-eq_of_lt}
use native.Mathlib.Decide.{dec_lt}
use native.Mathlib.Omega.{arith}
use lib.ListN.{length}
use Rattle.answer.proofs.Filling.{part, length_part, halfway}
use Rattle.answer.specs.Outcome.{Done}
use Rattle.laws.proofs.Groups.{whole-last, rest_of_rest}
use Rattle.samples.specs.Promises.{Converted}
use Rattle.samples.proofs.Strips.{per_row_lem, row_words}
use Rattle.packets.specs.declared.Plan.{Plan}
use Rattle.packets.specs.State.{geometry, per_row}
use Rattle.packets.specs.Steps.{WordsFeed, WordsFed, Predicted, RowsWords, RowWords}
use Rattle.packets.proofs.Bytewise.{Sane}
use Rattle.packets.proofs.Wordwise.{is, rows-fed}
use Rattle.packets.proofs.Joins.{front-words, back-words}

-- whole rows first
module _ {p : Plan} {k : ℕ} {raw sums old : List ℕ} (rows : RowsWords p k raw sums old) where
  abbrev R : ℕ
  R = p.row_bytes

  abbrev pub whole : ℕ
  whole = length raw - length raw % p.row_bytes

  feed : WordsFeed p k raw sums old
  feed = rows.predicted.feed

  sane : Sane p
  sane = is feed

  pub whole-inside : whole ≤ length raw
  whole-inside = omega arith

  whole_is : whole ≡ length raw / R * R
  whole_is = omega (arith, div-add-mod' (length raw) R)

  pub whole_words : whole % p.width ≡ 0
  whole_words = ap (λ (n : ℕ). n % p.width) (whole_is ∙ ap (λ (n : ℕ). length raw / R * n) (sym (per_row_lem 0 (geometry p) sane.good))) ∙ whole-last (length raw / R) (per_row p) p.width

  whole-rows : length (part 0 whole raw) % R ≡ 0
  whole-rows = rw (length_part 0 whole raw (omega arith) whole-inside) (ap (λ (n : ℕ). n % R) (omega (arith, whole_is)) ∙ mul-mod_left (length raw / R) R)

  pub rows-first : (answer : Done) {x : List ℕ} → Converted (part 0 whole raw) (geometry p) p.predict p.le p.out_le (part 0 whole old) answer x → WordsFed p k (part 0 whole raw) sums (part 0 whole old) sums x
  rows-first answer c = rows-fed (front-words feed whole whole-inside whole_words) rows.row_starts whole-rows answer c

  starts : (k + whole) % R ≡ 0
  starts = ap (λ (n : ℕ). (k + n) % R) whole_is ∙ add-mul-mod_self_right k (length raw / R) R ∙ rows.row_starts

  pub rest_of_rows : (answer : Done) {x : List ℕ} → Converted (part 0 whole raw) (geometry p) p.predict p.le p.out_le (part 0 whole old) answer x → RowWords p (k + whole) 0 (part whole (length raw) raw) sums (part whole (length (halfway whole old x)) (halfway whole old x))
  rest_of_rows answer c = record {
    predicted = record { feed = back-words feed whole whole-inside whole_words (rows-first answer c); on = rows.predicted.on };
    there = sym starts;
    inside = omega (arith, starts, length_part whole (length raw) raw whole-inside (omega arith), mod-lt (length raw) sane.good.long, mod-le (length raw) R);
  }

-- the begun row first
module _ {p : Plan} {k : ℕ} {raw sums old : List ℕ} (predicted : Predicted p k raw sums old) where
  abbrev Row : ℕ
  Row = p.row_bytes

  abbrev pub left : ℕ
  left = p.row_bytes - k % p.row_bytes

  begun : WordsFeed p k raw sums old
  begun = predicted.feed

  plan_sane : Sane p
  plan_sane = is begun

  less : k % Row < Row
  less = mod-lt k plan_sane.good.long

  pub left-words : left % p.width ≡ 0
  left-words =
      let W = p.width in
      let row : per_row p * W ≡ Row = per_row_lem 0 (geometry p) plan_sane.good in
      let rest : k % Row % W ≡ 0 = (rw row at (rest_of_rest k (per_row p) W)) ∙ begun.begins in
      let groups : k % Row / W * W ≡ k % Row = omega (arith, div-add-mod' (k % Row) W, rest) in
      sym (add-mul-mod_self_right left (k % Row / W) W) ∙ ap (λ (n : ℕ). n % W) (omega (arith, groups, less)) ∙ row_words 0 (geometry p) plan_sane.good

  -- all within the row
  pub within-row : length raw ≤ left → RowWords p k (k % p.row_bytes) raw sums old
  within-row short = record { predicted = predicted; there = refl; inside = omega (arith, less) }

  -- as one word is
  pub word_in_row : length raw ≡ p.width → length raw ≤ left
  word_in_row one = by (dec_lt left p.width)
    where
      by : Dec (left < p.width) → length raw ≤ left
      by (yes l) = absurd (omega (arith, less, left-words, mod-eq_of_lt l))
      by (no g) = omega (arith, one)

  module _ (long : left ≤ length raw) where
    pub row_end : RowWords p k (k % p.row_bytes) (part 0 left raw) sums (part 0 left old)
    row_end = record {
      predicted = record { feed = front-words begun left long left-words; on = predicted.on };
      there = refl;
      inside = omega (arith, less, length_part 0 left raw (omega arith) long);
    }

    pub next-rows : {one x : List ℕ} → WordsFed p k (part 0 left raw) sums (part 0 left old) one x → RowsWords p (k + left) (part left (length raw) raw) one (part left (length (halfway left old x)) (halfway left old x))
    next-rows first = record {
      predicted = record { feed = back-words begun left long left-words first; on = predicted.on };
      row_starts = sym (mod-add-mod k Row left) ∙ ap (λ (n : ℕ). n % Row) (omega (arith, less)) ∙ mod_self Row;
    }
