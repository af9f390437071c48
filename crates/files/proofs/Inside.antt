-- Which values fit their entry, and what it then has for bits of samples. Assumes nothing.
use Prim.Native.Nat.{ℕ, zero, suc, ◌+◌, ◌*◌, ◌≤◌, ◌<◌}
use mathlib.Core.Path.{◌≡◌, sym, ◌∙◌}
use mathlib.Core.Bool.{Bool, true, false}
use native.Mathlib.Decide.{dec_lt}
use native.Mathlib.Omega.{arith}
use borrow.Author.Tests.{lt-ltb, le-leb, lt-leb}
use lib.Dec.{eqb, ltb, leb}
use Rattle.answer.specs.Outcome.{pick}
use Rattle.layout.specs.declared.Fields.{Fields}
use Rattle.words.specs.Digits.{value}
use Rattle.files.specs.File.{in_entry, bits_of}

-- one LONG fits
pub one_inside : (n : ℕ) → leb n 1 ≡ in_entry 4 n
one_inside n = by (dec_lt 1 n)
  where
    by : Dec (1 < n) → leb n 1 ≡ in_entry 4 n
    by (yes l) = lt-leb n 1 l ∙ sym (lt-leb (4 * n) 4 (omega arith))
    by (no g) = le-leb n 1 (omega arith) ∙ sym (le-leb (4 * n) 4 (omega arith))

-- one SHORT or two fit
pub two_inside : (n d place : ℕ) → 0 < n → pick (ltb 2 n) place (pick (eqb n 2) (d + 65536 * d) d) ≡ pick (in_entry 2 n) (value 65536 n (λ j. d)) place
two_inside zero d place h = absurd (omega arith)
two_inside (suc zero) d place h = omega arith
two_inside (suc (suc zero)) d place h = omega arith
two_inside (suc (suc (suc n))) d place h = rw (lt-ltb 2 (suc (suc (suc n))) (omega arith), lt-leb (2 * suc (suc (suc n))) 4 (omega arith))

-- the bits of a sample of eight bytes or fewer
pub few_bits : (f : Fields) → f.bytes ≤ 8 → bits_of f ≤ 64
unfolding bits_of
few_bits f h = by (eqb f.slots 8)
  where
    by : (b : Bool) → pick b 1 (8 * f.bytes) ≤ 64
    by true = omega arith
    by false = omega arith
