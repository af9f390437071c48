-- Laws of `sample` and `difference`: what the first in its row is, and what a later one is. Proofs cite these, not the definitions.
-- Assumes nothing.
use mathlib.Core.Path.{◌≡◌, refl, ap}
use mathlib.Core.Bool.{Bool, true, false, not}
use mathlib.Core.List.{List}
use Prim.Native.Nat.{ℕ, zero, suc, ◌-◌, ◌/◌, ◌%◌, ◌≤◌, ◌<◌}
use native.Mathlib.Nat.{mod-le}
use native.Mathlib.Omega.{arith}
use borrow.Author.Tests.{ltb-false}
use lib.Dec.{ltb}
use Rattle.answer.specs.Outcome.{pick}
use Rattle.words.specs.Word.{modulus, plus, minus}
use Rattle.samples.specs.Sample.{alone, summed, word_of, sample, difference}
use Rattle.samples.specs.declared.Strip.{Strip}
use Rattle.laws.proofs.Says.{neither}

-- a sample that is not alone has one `channels` before it in its row
pub in_row : (g : Strip) (predict : Bool) (n : ℕ) → alone g predict n ≡ false → g.channels ≤ n % (g.row / g.width)
in_row g predict n e = ltb-false (n % (g.row / g.width)) g.channels (neither (not predict) (ltb (n % (g.row / g.width)) g.channels) e).1

pub not_alone : (g : Strip) (predict : Bool) (n : ℕ) → alone g predict n ≡ false → g.channels ≤ n
not_alone g predict n e = omega (arith, in_row g predict n e, mod-le n (g.row / g.width))

module _ (g : Strip) (predict : Bool) (some : 0 < g.channels) where
  pub first_alone : alone g predict 0 ≡ true
  first_alone = by (alone g predict 0) refl
    where
      by : (b : Bool) → alone g predict 0 ≡ b → b ≡ true
      by true e = refl
      by false e = absurd (omega (arith, not_alone g predict 0 e))

  -- going back further than n changes nothing
  enough : (w : ℕ → ℕ) (a b n : ℕ) → n ≤ a → n ≤ b → summed g predict w a n ≡ summed g predict w b n
  enough w zero zero n ha hb = refl
  enough w zero (suc b) n ha hb = let none : n ≡ 0 = omega arith in rw (none, first_alone)
  enough w (suc a) zero n ha hb = let none : n ≡ 0 = omega arith in rw (none, first_alone)
  enough w (suc a) (suc b) n ha hb =
      ap (λ (x : ℕ). pick (alone g predict n) (w n % modulus g.width) (plus g.width (w n) x)) (enough w a b (n - g.channels) (omega arith) (omega arith))

module _ (g : Strip) (predict le : Bool) (raw : List ℕ) where
  pub sample-alone : (n : ℕ) → alone g predict n ≡ true → sample g predict le raw n ≡ word_of g.width le raw n % modulus g.width
  unfolding sample
  sample-alone zero e = refl
  sample-alone (suc n) e = rw e

  pub sample-later : (n : ℕ) → 0 < g.channels → alone g predict n ≡ false → sample g predict le raw n ≡ plus g.width (word_of g.width le raw n) (sample g predict le raw (n - g.channels))
  unfolding sample
  sample-later zero some e = absurd (omega (arith, not_alone g predict 0 e))
  sample-later (suc n) some e =
      rw e (ap (plus g.width (word_of g.width le raw (suc n))) (enough g predict some (word_of g.width le raw) n (suc n - g.channels) (suc n - g.channels) (omega arith) (omega arith)))

  pub difference-alone : (n : ℕ) → alone g predict n ≡ true → difference g predict le raw n ≡ word_of g.width le raw n % modulus g.width
  unfolding difference
  difference-alone n e = rw e

  pub difference-later : (n : ℕ) → alone g predict n ≡ false → difference g predict le raw n ≡ minus g.width (word_of g.width le raw n) (word_of g.width le raw (n - g.channels))
  unfolding difference
  difference-later n e = rw e
