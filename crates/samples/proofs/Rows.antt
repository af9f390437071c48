-- A row's samples depend on that row's bytes alone: two rows, of one strip or of two, whose words agree have the same samples.
-- Assumes nothing.
use mathlib.Core.Path.{◌≡◌, refl, sym, ap, ◌∙◌}
use mathlib.Core.Bool.{Bool, true, false, not, ◌||◌}
use mathlib.Core.List.{List}
use Prim.Native.Nat.{ℕ, zero, suc, ◌+◌, ◌-◌, ◌*◌, ◌/◌, ◌%◌, ◌≤◌, ◌<◌}
use native.Mathlib.Nat.{div-add-mod', mod-lt, add-mul, suc-mul, one-mul, mul_assoc, mul-le-mul_right, mul-mod_left, le-div_iff_mul-le}
use native.Mathlib.Omega.{arith}
use lib.Dec.{ltb}
use lib.ListN.{get_or}
use Rattle.words.specs.Word.{modulus}
use Rattle.words.proofs.Words.{word_same}
use Rattle.laws.proofs.Groups.{into_group}
use Rattle.samples.specs.Sample.{Good, alone, word_of, sample, difference}
use Rattle.samples.specs.declared.Strip.{Strip}
use Rattle.samples.proofs.Sums.{in_row, sample-alone, sample-later, difference-alone, difference-later}
use Rattle.samples.proofs.Strips.{per_row_lem, width_fits}

-- two rows: i and j are where they begin, counted in samples
module _ (g : Strip) (some : 0 < g.channels) (predict le : Bool) (s t : List ℕ) (i j : ℕ) (hi : i % (g.row / g.width) ≡ 0) (hj : j % (g.row / g.width) ≡ 0) (words : (m : ℕ) → m < g.row / g.width → word_of g.width le s (i + m) ≡ word_of g.width le t (j + m)) where
  -- a place is alone in both or in neither
  alike : (m : ℕ) → m < g.row / g.width → alone g predict (i + m) ≡ alone g predict (j + m)
  alike m h = ap (λ (x : ℕ). not predict || ltb x g.channels) (into_group (g.row / g.width) i m hi h ∙ sym (into_group (g.row / g.width) j m hj h))

  -- one that is not alone is `channels` or more into its row
  deep : (m : ℕ) → m < g.row / g.width → alone g predict (i + m) ≡ false → g.channels ≤ m
  deep m h e = omega (arith, in_row g predict (i + m) e, into_group (g.row / g.width) i m hi h)

  same_upto : (more m : ℕ) → m < more → m < g.row / g.width → sample g predict le s (i + m) ≡ sample g predict le t (j + m)
  same_upto zero m l h = absurd (omega arith)
  same_upto (suc more) m l h = by (alone g predict (i + m)) refl (λ d. same_upto more (m - g.channels) (omega arith) (omega arith))
    where
      by : (b : Bool) → alone g predict (i + m) ≡ b → (g.channels ≤ m → sample g predict le s (i + (m - g.channels)) ≡ sample g predict le t (j + (m - g.channels))) → sample g predict le s (i + m) ≡ sample g predict le t (j + m)
      by true e back = sample-alone g predict le s (i + m) e ∙ ap (λ (x : ℕ). x % modulus g.width) (words m h) ∙ sym (sample-alone g predict le t (j + m) (sym (alike m h) ∙ e))
      by false e back =
          let d : g.channels ≤ m = deep m h e in
          let left : i + m - g.channels ≡ i + (m - g.channels) = omega arith in
          let right : j + m - g.channels ≡ j + (m - g.channels) = omega arith in
          sample-later g predict le s (i + m) some e ∙ rw (left, words m h, back d, ← right) (sym (sample-later g predict le t (j + m) some (sym (alike m h) ∙ e)))

  pub same_samples : (m : ℕ) → m < g.row / g.width → sample g predict le s (i + m) ≡ sample g predict le t (j + m)
  same_samples m h = same_upto (suc m) m (omega arith) h

  pub same_differences : (m : ℕ) → m < g.row / g.width → difference g predict le s (i + m) ≡ difference g predict le t (j + m)
  same_differences m h = by (alone g predict (i + m)) refl
    where
      by : (b : Bool) → alone g predict (i + m) ≡ b → difference g predict le s (i + m) ≡ difference g predict le t (j + m)
      by true e = difference-alone g predict le s (i + m) e ∙ ap (λ (x : ℕ). x % modulus g.width) (words m h) ∙ sym (difference-alone g predict le t (j + m) (sym (alike m h) ∙ e))
      by false e =
          let d : g.channels ≤ m = deep m h e in
          let left : i + m - g.channels ≡ i + (m - g.channels) = omega arith in
          let right : j + m - g.channels ≡ j + (m - g.channels) = omega arith in
          difference-later g predict le s (i + m) e ∙ rw (left, words m h, words (m - g.channels) (omega arith), ← right) (sym (difference-later g predict le t (j + m) (sym (alike m h) ∙ e)))

-- a row's samples depend on that row's bytes alone
pub row-alone : (bytes : ℕ) (g : Strip) (good : Good bytes g) (predict le : Bool) (s t : List ℕ) (r : ℕ) → ((k : ℕ) → r * g.row ≤ k → k < r * g.row + g.row → get_or s k 0 ≡ get_or t k 0) → (n : ℕ) → n / (g.row / g.width) ≡ r → sample g predict le s n ≡ sample g predict le t n
row-alone bytes g good predict le s t r agree n at_r =
    let per = g.row / g.width in
    let some : 0 < per = (le-div_iff_mul-le {k = g.width} {x = 1} {y = g.row} good.wide).1 (omega (arith, one-mul g.width, width_fits bytes g good)) in
    let split : r * per + n % per ≡ n = rw (← at_r) (div-add-mod' n per) in
    rw (← split)
    (same_samples g good.channel predict le s t (r * per) (r * per) (mul-mod_left r per) (mul-mod_left r per)
    (λ m h.
    let from : (r * per + m) * g.width ≡ r * g.row + m * g.width = add-mul (r * per) m g.width ∙ ap (λ (x : ℕ). x + m * g.width) (mul_assoc r per g.width ∙ ap (λ (x : ℕ). r * x) (per_row_lem bytes g good)) in
    let last : suc m * g.width ≤ g.row = rw (per_row_lem bytes g good) at (mul-le-mul_right g.width h) in
    word_same s t ((r * per + m) * g.width) ((r * per + m) * g.width) g.width le (λ p l. agree ((r * per + m) * g.width + p) (omega arith) (omega (arith, suc-mul m g.width))))
    (n % per)
    (mod-lt n some))
