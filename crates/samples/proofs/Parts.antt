-- Words of a part of a strip are the strip's words there; a part that is whole rows has the strip's samples there. Assumes nothing.
use mathlib.Core.Path.{◌≡◌, sym, ap, ap₂, ◌∙◌}
use mathlib.Core.Bool.{Bool}
use mathlib.Core.List.{List}
use Prim.Native.Nat.{ℕ, suc, ◌+◌, ◌-◌, ◌*◌, ◌/◌, ◌%◌, ◌≤◌, ◌<◌}
use native.Mathlib.Nat.{zero-add, add_comm, add-mul, suc-mul, mul_assoc, mul-le-mul_right, mul-mod_left, zero-mod, div-add-mod', div-lt_iff_lt-mul, add-mul-mod_self_right, add-mul-div_right, mod-eq-zero_of_dvd, dvd_of_mod-eq-zero, dvd_trans, mul-div_cancel}
use native.Mathlib.Omega.{arith}
use lib.ListN.{length, get_or}
use Rattle.answer.proofs.Filling.{part, length_part, part_at}
use Rattle.words.specs.Word.{word_at}
use Rattle.words.proofs.Words.{word_same}
use Rattle.samples.specs.Sample.{strip, Good, word_of, sample, difference, stored_at}
use Rattle.samples.specs.declared.Strip.{Strip}
use Rattle.samples.proofs.Strips.{row_words, per_row_lem}
use Rattle.samples.proofs.Rows.{same_samples, same_differences}

pub part_word : (raw : List ℕ) (a e at width : ℕ) (le : Bool) → at + width ≤ e - a → word_at (part a e raw) at width le ≡ word_at raw (a + at) width le
part_word raw a e at width le room =
    word_same (part a e raw) raw at (a + at) width le (λ p h. part_at a e raw (at + p) (omega arith) ∙ ap (λ (k : ℕ). get_or raw k 0) (omega arith))

-- the row of a good strip that begins at byte `at`
module _ (raw : List ℕ) (g : Strip) (good : Good (length raw) g) (le out_le : Bool) (at : ℕ) (ha : at % g.row ≡ 0) (room : at + g.row ≤ length raw) where
  abbrev row_part : List ℕ
  row_part = part at (at + g.row) raw

  pub row-long : length row_part ≡ g.row
  row-long = length_part at (at + g.row) raw (omega arith) room ∙ omega arith

  -- where it begins, in samples
  begins : at / g.width * g.width ≡ at
  begins =
      let words : at % g.width ≡ 0 = mod-eq-zero_of_dvd g.width (dvd_trans g.width (dvd_of_mod-eq-zero g.width (row_words (length raw) g good)) (dvd_of_mod-eq-zero g.row ha)) in
      omega (arith, div-add-mod' at g.width)

  row-begins : at / g.width % (g.row / g.width) ≡ 0
  row-begins =
      let rows : at / g.row * g.row ≡ at = omega (arith, div-add-mod' at g.row, ha) in
      let same : at / g.row * (g.row / g.width) * g.width ≡ at / g.width * g.width = mul_assoc (at / g.row) (g.row / g.width) g.width ∙ rw (per_row_lem (length raw) g good) (rows ∙ sym begins) in
      let whole : at / g.width ≡ at / g.row * (g.row / g.width) = sym (mul-div_cancel (at / g.width) good.wide) ∙ ap (λ (x : ℕ). x / g.width) (sym same) ∙ mul-div_cancel (at / g.row * (g.row / g.width)) good.wide in
      rw whole (mul-mod_left (at / g.row) (g.row / g.width))

  words_agree : (m : ℕ) → m < g.row / g.width → word_of g.width le raw (at / g.width + m) ≡ word_of g.width le row_part (0 + m)
  words_agree m h =
      let next_word : suc m * g.width ≤ g.row = rw (per_row_lem (length raw) g good) at (mul-le-mul_right g.width h) in
      let there : m * g.width + g.width ≤ at + g.row - at = omega (arith, next_word, suc-mul m g.width) in
      let from : (at / g.width + m) * g.width ≡ at + m * g.width = add-mul (at / g.width) m g.width ∙ ap (λ (x : ℕ). x + m * g.width) begins in
      rw (zero-add m, from) (sym (part_word raw at (at + g.row) (m * g.width) g.width le there))

  -- byte k of the row, among the words of the strip
  placed : (v w : ℕ → ℕ) → ((m : ℕ) → m < g.row / g.width → v (at / g.width + m) ≡ w (0 + m)) → (k : ℕ) → k < g.row → stored_at g.width out_le w k ≡ stored_at g.width out_le v (at + k)
  placed v w agree k h =
      let inside : k / g.width < g.row / g.width = (div-lt_iff_lt-mul {k = g.width} {x = k} {y = g.row / g.width} good.wide).1 (rw (per_row_lem (length raw) g good) h) in
      let from : at + k ≡ k + at / g.width * g.width = omega (arith, begins) in
      rw (from, add-mul-mod_self_right k (at / g.width) g.width, add-mul-div_right k (at / g.width) good.wide, add_comm (k / g.width) (at / g.width), agree (k / g.width) inside, zero-add (k / g.width))

  -- its samples are of the channels that the strip's are of
  same-channel : (m : ℕ) → (at / g.width + m) % g.channels ≡ (0 + m) % g.channels
  same-channel m =
      let row : g.row / (g.channels * g.width) * g.channels * g.width ≡ g.row = mul_assoc (g.row / (g.channels * g.width)) g.channels g.width ∙ omega (arith, div-add-mod' g.row (g.channels * g.width), good.rows) in
      let rows : at / g.row * (g.row / (g.channels * g.width)) * g.channels * g.width ≡ at =
      ap (λ (x : ℕ). x * g.width) (mul_assoc (at / g.row) (g.row / (g.channels * g.width)) g.channels)
      ∙ mul_assoc (at / g.row) (g.row / (g.channels * g.width) * g.channels) g.width
      ∙ ap (λ (x : ℕ). at / g.row * x) row
      ∙ omega (arith, div-add-mod' at g.row, ha) in
      let whole : at / g.width ≡ at / g.row * (g.row / (g.channels * g.width)) * g.channels = ap (λ (x : ℕ). x / g.width) (sym rows) ∙ mul-div_cancel (at / g.row * (g.row / (g.channels * g.width)) * g.channels) good.wide in
      rw (whole, add_comm (at / g.row * (g.row / (g.channels * g.width)) * g.channels) m, add-mul-mod_self_right m (at / g.row * (g.row / (g.channels * g.width))) g.channels, zero-add m)

  -- so what is made of each sample and its channel is what is made of the strip's
  pub part_made : (f : ℕ → ℕ → ℕ) (predict : Bool) (k : ℕ) → k < g.row → stored_at g.width out_le (λ n. f (sample (strip (length row_part) g.channels g.width) predict le row_part n) (n % g.channels)) k ≡ stored_at g.width out_le (λ n. f (sample g predict le raw n) (n % g.channels)) (at + k)
  part_made f predict k h =
      rw row-long
      (placed (λ n. f (sample g predict le raw n) (n % g.channels)) (λ n. f (sample g predict le row_part n) (n % g.channels))
      (λ m l. ap₂ f (same_samples g good.channel predict le raw row_part (at / g.width) 0 row-begins (zero-mod (g.row / g.width)) words_agree m l) (same-channel m)) k h)

  pub part_samples : (predict : Bool) (k : ℕ) → k < g.row → stored_at g.width out_le (sample (strip (length row_part) g.channels g.width) predict le row_part) k ≡ stored_at g.width out_le (sample g predict le raw) (at + k)
  part_samples = part_made (λ x channel. x)

  pub part_differences : (predict : Bool) (k : ℕ) → k < g.row → stored_at g.width out_le (difference (strip (length row_part) g.channels g.width) predict le row_part) k ≡ stored_at g.width out_le (difference g predict le raw) (at + k)
  part_differences predict k h =
      rw row-long (placed (difference g predict le raw) (difference g predict le row_part) (same_differences g good.channel predict le raw row_part (at / g.width) 0 row-begins (zero-mod (g.row / g.width)) words_agree) k h)
