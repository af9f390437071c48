-- Which widths are served, as cases: what a proof that goes by widths cites. Assumes nothing.
use mathlib.Core.Path.{◌≡◌, refl}
use mathlib.Core.Bool.{Bool, true, false}
use mathlib.Core.List.{[], ◌∷◌}
use mathlib.Core.Logic.{inl, inr}
use Prim.Native.Nat.{ℕ, ◌-◌, ◌%◌, ◌<◌, ◌≤◌}
use native.Mathlib.Omega.{arith}
use lib.Bits.{bit_and, and_mask}
use Rattle.words.specs.Promises.{served, load_width}
use Rattle.words.proofs.Among.{OneOf, among_one}

-- the widths served, one by one
pub served-one : (width : ℕ) → served width ≡ true → OneOf width (1 ∷ 2 ∷ 3 ∷ 4 ∷ 8 ∷ [])
unfolding served
served-one width e = among_one width (1 ∷ 2 ∷ 3 ∷ 4 ∷ 8 ∷ []) e

pub served_eight : (width : ℕ) → served width ≡ true → (width ≡ 1 → ⊥) → (width ≡ 2 → ⊥) → (width ≡ 3 → ⊥) → (width ≡ 4 → ⊥) → width ≡ 8
served_eight width e n1 n2 n3 n4 = by (served-one width e)
  where
    by : OneOf width (1 ∷ 2 ∷ 3 ∷ 4 ∷ 8 ∷ []) → width ≡ 8
    by (inl a) = absurd (n1 a)
    by (inr (inl a)) = absurd (n2 a)
    by (inr (inr (inl a))) = absurd (n3 a)
    by (inr (inr (inr (inl a)))) = absurd (n4 a)
    by (inr (inr (inr (inr (inl a))))) = a
    by (inr (inr (inr (inr (inr z))))) = absurd z

-- of those above 3, and of the others, the one that is left
pub served-wide : (width : ℕ) → served width ≡ true → 3 < width → (width ≡ 4 → ⊥) → width ≡ 8
served-wide width e w n4 = by (served-one width e)
  where
    by : OneOf width (1 ∷ 2 ∷ 3 ∷ 4 ∷ 8 ∷ []) → width ≡ 8
    by (inl a) = absurd (omega arith)
    by (inr (inl a)) = absurd (omega arith)
    by (inr (inr (inl a))) = absurd (omega arith)
    by (inr (inr (inr (inl a)))) = absurd (n4 a)
    by (inr (inr (inr (inr (inl a))))) = a
    by (inr (inr (inr (inr (inr z))))) = absurd z

pub served-narrow : (width : ℕ) → served width ≡ true → width ≤ 3 → (width ≡ 1 → ⊥) → (width ≡ 2 → ⊥) → width ≡ 3
served-narrow width e w n1 n2 = by (served-one width e)
  where
    by : OneOf width (1 ∷ 2 ∷ 3 ∷ 4 ∷ 8 ∷ []) → width ≡ 3
    by (inl a) = absurd (n1 a)
    by (inr (inl a)) = absurd (n2 a)
    by (inr (inr (inl a))) = a
    by (inr (inr (inr (inl a)))) = absurd (omega arith)
    by (inr (inr (inr (inr (inl a))))) = absurd (omega arith)
    by (inr (inr (inr (inr (inr z))))) = absurd z

-- what is past whole words: but for three bytes, the low bits
pub past_bits : (n width : ℕ) → served width ≡ true → (width ≡ 3 → ⊥) → bit_and n (width - 1) ≡ n % width
past_bits n width e n3 = by (served-one width e)
  where
    by : OneOf width (1 ∷ 2 ∷ 3 ∷ 4 ∷ 8 ∷ []) → bit_and n (width - 1) ≡ n % width
    by (inl a) = rw a (and_mask n 0)
    by (inr (inl a)) = rw a (and_mask n 1)
    by (inr (inr (inl a))) = absurd (n3 a)
    by (inr (inr (inr (inl a)))) = rw a (and_mask n 2)
    by (inr (inr (inr (inr (inl a))))) = rw a (and_mask n 3)
    by (inr (inr (inr (inr (inr z))))) = absurd z

pub served-some : (width : ℕ) → served width ≡ true → (0 < width) × (width ≤ 8)
served-some width e = by (served-one width e)
  where
    by : OneOf width (1 ∷ 2 ∷ 3 ∷ 4 ∷ 8 ∷ []) → (0 < width) × (width ≤ 8)
    by (inl a) = omega arith
    by (inr (inl a)) = omega arith
    by (inr (inr (inl a))) = omega arith
    by (inr (inr (inr (inl a)))) = omega arith
    by (inr (inr (inr (inr (inl a))))) = omega arith
    by (inr (inr (inr (inr (inr z))))) = absurd z

pub load_served : (wide : Bool) → served (load_width wide) ≡ true
unfolding served
load_served true = refl
load_served false = refl
