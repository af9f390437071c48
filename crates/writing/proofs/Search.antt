-- The look for a byte that is neither 0 nor 255, from the front on. Assumes nothing.
use Prim.Native.Nat.{ℕ, zero, suc, ◌<◌}
use mathlib.Core.Path.{◌≡◌, refl, sym, ap, ◌∙◌}
use mathlib.Core.Bool.{Bool, true, false, ◌&&◌, ◌||◌}
use mathlib.Core.List.{List, [], ◌∷◌}
use native.Mathlib.Omega.{arith}
use Rattle.std.specs.List.{list_all}
use lib.ListN.{length, get_or}
use lib.Dec.{eqb}
use Rattle.pixels.specs.Planes.{two_levels}

-- one of the two levels
abbrev pub level : ℕ → Bool
level v = eqb v 0 || eqb v 255

and_true : (b : Bool) → (b && true) ≡ b
and_true true = refl
and_true false = refl

regrouped : (a b c : Bool) → (a && b && c) ≡ (a && (b && c))
regrouped true b c = refl
regrouped false b c = refl

-- a byte before the others
levels_after : (n x : ℕ) (xs : List ℕ) → two_levels (suc n) (x ∷ xs) ≡ (level x && two_levels n xs)
levels_after zero x xs = sym (and_true (level x))
levels_after (suc n) x xs = ap (λ (b : Bool). b && level (get_or xs n 0)) (levels_after n x xs) ∙ regrouped (level x) (two_levels n xs) (level (get_or xs n 0))

pub levels_all_are : (xs : List ℕ) → list_all level xs ≡ two_levels (length xs) xs
levels_all_are [] = refl
levels_all_are (x ∷ xs) = ap (λ (b : Bool). level x && b) (levels_all_are xs) ∙ sym (levels_after (length xs) x xs)

-- it looks at the first bytes alone
pub levels_same : (n : ℕ) (xs ys : List ℕ) → ((k : ℕ) → k < n → get_or xs k 0 ≡ get_or ys k 0) → two_levels n xs ≡ two_levels n ys
levels_same zero xs ys e = refl
levels_same (suc n) xs ys e = rw (e n (omega arith), levels_same n xs ys (λ k h. e k (omega arith)))
