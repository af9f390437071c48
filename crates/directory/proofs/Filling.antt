-- Places and lengths by turns: two numbers for each strip. Assumes nothing.
use Prim.Native.Nat.{◌%◌, ◌*◌, ◌+◌, ◌/◌, ◌≤◌, ℕ}
use Rattle.directory.specs.Page.{part_number, strip_length, strip_place}
use Rattle.directory.specs.declared.strips.Strips.{Strips}
use Rattle.laws.proofs.Groups.{group_of, item_of}
use Rattle.laws.proofs.Lists.{FilledTo, filled_next}
use lib.ListN.{length, set}
use mathlib.Core.List.{List}
use mathlib.Core.Path.{◌∙◌, ◌≡◌, ap, refl}
use native.Mathlib.Nat.{add-zero, mul_comm}
use native.Mathlib.Omega.{arith}

module _ (file : List ℕ) (s : Strips) (k : ℕ) where
  pub place-number : part_number file s (2 * k) ≡ strip_place file s k
  place-number =
      let at : 2 * k ≡ k * 2 + 0 = omega (arith, mul_comm 2 k) in
      let even : 2 * k % 2 ≡ 0 = ap (λ (n : ℕ). n % 2) at ∙ item_of k 2 {b = 0} (omega arith) in
      let half : 2 * k / 2 ≡ k = ap (λ (n : ℕ). n / 2) at ∙ group_of k 2 {b = 0} (omega arith) in
      rw (even, half) refl

  pub length-number : part_number file s (2 * k + 1) ≡ strip_length file s k
  length-number =
      let at : 2 * k + 1 ≡ k * 2 + 1 = omega (arith, mul_comm 2 k) in
      let odd : (2 * k + 1) % 2 ≡ 1 = ap (λ (n : ℕ). n % 2) at ∙ item_of k 2 {b = 1} (omega arith) in
      let half : (2 * k + 1) / 2 ≡ k = ap (λ (n : ℕ). n / 2) at ∙ group_of k 2 {b = 1} (omega arith) in
      rw (odd, half) refl

-- a strip more
pub parts_more : (f : ℕ → ℕ) (old out : List ℕ) (k x y : ℕ) → FilledTo f old (2 * k) out → 2 * k + 2 ≤ length old → x ≡ f (2 * k) → y ≡ f (2 * k + 1) → FilledTo f old (2 * (k + 1)) (set (set out (2 * k + 0) x) (2 * k + 1) y)
parts_more f old out k x y is room ex ey =
    let twice : 2 * (k + 1) ≡ 2 * k + 1 + 1 = omega arith in
    rw (add-zero (2 * k), twice) (filled_next (filled_next is (omega arith) x ex) (omega arith) y ey)
