-- A number that is among those of a list is one of them. Assumes nothing.
use mathlib.Core.Path.{◌≡◌, refl}
use mathlib.Core.Bool.{Bool, true, false, or-true}
use mathlib.Core.List.{List, [], ◌∷◌}
use mathlib.Core.Logic.{◌⊎◌, inl, inr}
use Prim.Native.Nat.{ℕ}
use native.Mathlib.Omega.{arith}
use lib.Dec.{eqb}
use borrow.Author.Tests.{eqb-true, eq-eqb}
use Rattle.words.specs.Promises.{among}

abbrev pub OneOf : ℕ → List ℕ → Type 0
OneOf n [] = ⊥
OneOf n (x ∷ xs) = (n ≡ x) ⊎ OneOf n xs

pub among_one : (n : ℕ) (xs : List ℕ) → among n xs ≡ true → OneOf n xs
among_one n [] e = absurd (let z : ◌≡◌ {A = ℕ} 0 1 = cc in omega arith)
among_one n (x ∷ xs) e = by (eqb n x) refl (among_one n xs)
  where
    by : (b : Bool) → eqb n x ≡ b → (among n xs ≡ true → OneOf n xs) → OneOf n (x ∷ xs)
    by true t rest = inl (eqb-true n x t)
    by false t rest = inr (rest (rw t at e))

pub one-among : (n : ℕ) (xs : List ℕ) → OneOf n xs → among n xs ≡ true
one-among n [] o = absurd o
one-among n (x ∷ xs) (inl e) = rw (eq-eqb n x e)
one-among n (x ∷ xs) (inr o) = rw (one-among n xs o, or-true)
