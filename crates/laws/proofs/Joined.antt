-- Lists end to end: how long they are together, and where each of them stands. Assumes nothing.
use Prim.Native.Nat.{ℕ, zero, suc, ◌+◌, ◌*◌, ◌≤◌, ◌<◌}
use mathlib.Core.Path.{◌≡◌, refl, sym, ap, ◌∙◌}
use mathlib.Core.List.{List, ◌++◌}
use native.Mathlib.Decide.{dec_lt}
use native.Mathlib.Nat.{mul-suc, mul-zero}
use native.Mathlib.Omega.{arith}
use lib.ListN.{length, get_or, take, drop, length-append, get_or-append}
use lib.Seq.{get_or-append-add, take-add}
use Rattle.laws.specs.Turns.{sum, end_to_end}

pub length-joined : (n : ℕ) (f : ℕ → List ℕ) → length (end_to_end n f) ≡ sum n (λ j. length (f j))
length-joined zero f = refl
length-joined (suc n) f = length-append (end_to_end n f) (f n) ∙ ap (λ (m : ℕ). m + length (f n)) (length-joined n f)

-- the same lists
pub joined_same : (n : ℕ) (f g : ℕ → List ℕ) → ((k : ℕ) → k < n → f k ≡ g k) → end_to_end n f ≡ end_to_end n g
joined_same zero f g e = refl
joined_same (suc n) f g e = rw (joined_same n f g (λ k h. e k (omega arith)), e n (omega arith))

-- what comes before, and a list itself, are no more than all
pub sum-within : (f : ℕ → ℕ) (k n : ℕ) → k < n → sum k f + f k ≤ sum n f
sum-within f k zero h = absurd (omega arith)
sum-within f k (suc n) h = by (dec_lt k n) (sum-within f k n)
  where
    by : Dec (k < n) → (k < n → sum k f + f k ≤ sum n f) → sum k f + f k ≤ sum n f + f n
    by (yes l) before = omega (arith, before l)
    by (no g) before = let last : k ≡ n = omega arith in rw last (omega arith)

-- item i of list k comes after all lists before it
pub joined_at : (n : ℕ) (f : ℕ → List ℕ) (k i : ℕ) → k < n → i < length (f k) → get_or (end_to_end n f) (sum k (λ j. length (f j)) + i) 0 ≡ get_or (f k) i 0
joined_at zero f k i h l = absurd (omega arith)
joined_at (suc n) f k i h l = by (dec_lt k n) (λ p. joined_at n f k i p l)
  where
    before : ℕ → ℕ
    before m = sum m (λ j. length (f j))

    by : Dec (k < n) → (k < n → get_or (end_to_end n f) (before k + i) 0 ≡ get_or (f k) i 0) → get_or (end_to_end n f ++ f n) (before k + i) 0 ≡ get_or (f k) i 0
    by (yes p) earlier =
        get_or-append (end_to_end n f) (f n) 0 (before k + i) (rw length-joined (omega (arith, sum-within (λ j. length (f j)) k n p))) ∙ earlier p
    by (no p) earlier =
        let last : n ≡ k = omega arith in
        rw last (ap (λ (m : ℕ). get_or (end_to_end k f ++ f k) (m + i) 0) (sym (length-joined k f)) ∙ get_or-append-add (end_to_end k f) (f k) i 0)

-- lists of one length
pub sum-all : (n m : ℕ) → sum n (λ j. m) ≡ m * n
sum-all zero m = sym (mul-zero m)
sum-all (suc n) m = rw (sum-all n m, mul-suc m n)

-- the parts of a list that follow one another, end to end
pub parts_joined : (n : ℕ) (size : ℕ → ℕ) (l : List ℕ) → end_to_end n (λ k. take (size k) (drop (sum k size) l)) ≡ take (sum n size) l
parts_joined zero size l = refl
parts_joined (suc n) size l = rw (parts_joined n size l) (sym (take-add (sum n size) (size n) l))
