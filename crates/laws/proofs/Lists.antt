-- Lists read past their end and by their parts, the front of a buffer that is a table, and loops that fill a list from the front or change it in place. Assumes nothing.
use mathlib.Core.Path.{◌≡◌, refl, sym, ap, ◌∙◌}
use mathlib.Core.List.{List, [], ◌∷◌}
use Prim.Native.Nat.{ℕ, zero, suc, ◌+◌, ◌-◌, ◌≤◌, ◌<◌}
use native.Mathlib.Decide.{dec_lt, ℕ_discrete}
use native.Mathlib.Omega.{arith}
use lib.ListN.{length, get_or, take, set, length-set, length-take}
use lib.Seq.{get_or-take, ext_get_or, get_or-set_same, get_or-set_other}
use Rattle.answer.specs.Table.{table, filled}
use Rattle.answer.proofs.Filling.{part, length_part, part_at, length-table, table_at, table_same, filled_more, filled_rest, filled-all}

-- past a list's end stands 0
pub past_end : (l : List ℕ) (i : ℕ) → length l ≤ i → get_or l i 0 ≡ 0
past_end [] i h = refl
past_end (x ∷ l) zero h = absurd (omega arith)
past_end (x ∷ l) (suc i) h = past_end l i (omega arith)

-- what holds of 0 and of all that f gives holds of what is read from its table; and so of a part of a list
pub each-table : (P : ℕ → Type 0) → P 0 → (n : ℕ) (f : ℕ → ℕ) → ((k : ℕ) → P (f k)) → (i : ℕ) → P (get_or (table n f) i 0)
each-table P none n f each i = by (dec_lt i n)
  where
    by : Dec (i < n) → P (get_or (table n f) i 0)
    by (yes l) = rw (table_at n f i l) (each i)
    by (no m) = rw (past_end (table n f) i (omega (arith, length-table n f))) none

pub each_part : (P : ℕ → Type 0) → P 0 → (l : List ℕ) → ((k : ℕ) → P (get_or l k 0)) → (a e : ℕ) → a ≤ e → e ≤ length l → (i : ℕ) → P (get_or (part a e l) i 0)
each_part P none l each a e h room i = by (dec_lt i (e - a))
  where
    by : Dec (i < e - a) → P (get_or (part a e l) i 0)
    by (yes l') = rw (part_at a e l i l') (each (a + i))
    by (no m) = rw (past_end (part a e l) i (omega (arith, length_part a e l h room))) none

-- a list of m elements that are all x is the table of what is x below m
pub table-all : (n m x : ℕ) (f : ℕ → ℕ) (l : List ℕ) → l ≡ table n (λ k. x) → n ≡ m → ((k : ℕ) → k < m → f k ≡ x) → l ≡ table m f
table-all n m x f l e long each = e ∙ ap (λ (i : ℕ). table i (λ k. x)) long ∙ table_same m (λ k. x) f (λ k h. sym (each k h))

-- a list that a loop fills from the front, up to n
pub record FilledTo (f : ℕ → ℕ) (old : List ℕ) (n : ℕ) (out : List ℕ) : Type 0 where
  pub inside : n ≤ length old
  pub same : length out ≡ length old
  pub so_far : out ≡ filled n f old

pub filled_none : (f : ℕ → ℕ) (old : List ℕ) → FilledTo f old 0 old
filled_none f old = record { inside = omega arith; same = refl; so_far = refl }

module _ {f : ℕ → ℕ} {old : List ℕ} {n : ℕ} {out : List ℕ} (is : FilledTo f old n out) where
  pub filled_next : n < length old → (x : ℕ) → x ≡ f n → FilledTo f old (n + 1) (set out n x)
  filled_next more x e = record { inside = omega arith; same = length-set out n x ∙ is.same; so_far = rw (e, is.so_far) (filled_more n f old more) }

  pub filled_end : length old ≤ n → out ≡ table (length old) f
  filled_end l = let all : n ≡ length old = omega (arith, is.inside) in (rw all at is.so_far) ∙ filled-all (length old) f old (omega arith)

-- a list that a loop changes in place, each element by g; the next one, from what stands there now
abbrev pub Changed : (ℕ → ℕ) → List ℕ → ℕ → List ℕ → Type 0
Changed g old n out = FilledTo (λ k. g (get_or old k 0)) old n out

pub changed_next : (g : ℕ → ℕ) {old out : List ℕ} {n x : ℕ} → Changed g old n out → n < length out → x ≡ g (get_or out n 0) → Changed g old (n + 1) (set out n x)
changed_next g {old} {out} {n} {x} is more e =
    let unread : get_or out n 0 ≡ get_or old n 0 = ap (λ (l : List ℕ). get_or l n 0) is.so_far ∙ filled_rest n (λ k. g (get_or old k 0)) old n (omega arith) in
    filled_next is (omega (arith, is.same)) x (e ∙ ap g unread)

-- the front of a buffer that is a table, byte by byte
pub front_at : (n : ℕ) (f : ℕ → ℕ) (x : List ℕ) → take n x ≡ table n f → (i : ℕ) → i < n → get_or x i 0 ≡ f i
front_at n f x e i h = sym (get_or-take n x i 0 h) ∙ ap (λ (l : List ℕ). get_or l i 0) e ∙ table_at n f i h

-- a list's own front
pub own_front : (n : ℕ) (x : List ℕ) → n ≤ length x → table n (λ k. get_or x k 0) ≡ take n x
own_front n x h =
    ext_get_or 0 (table n (λ k. get_or x k 0)) (take n x) (length-table n _ ∙ sym (length-take n x ∙ omega arith)) (λ i l. let inside : i < n = omega (arith, length-table n (λ k. get_or x k 0)) in table_at n _ i inside ∙ sym (get_or-take n x i 0 inside))

-- n times 0
abbrev pub nothing : ℕ → List ℕ
nothing zero = []
nothing (suc n) = 0 ∷ nothing n

pub zeros : (n j : ℕ) → get_or (nothing n) j 0 ≡ 0
zeros zero j = refl
zeros (suc n) zero = refl
zeros (suc n) (suc j) = zeros n j

-- a buffer filled so far takes one element more
pub filled-one : (f : ℕ → ℕ) (old : List ℕ) {out : List ℕ} (n : ℕ) {v : ℕ} → out ≡ filled n f old → v ≡ f n → n < length old → set out n v ≡ filled (n + 1) f old
filled-one f old n s is h = rw (is, s) (filled_more n f old h)

-- a table of which one element is set anew
pub set-table : (n : ℕ) (f g : ℕ → ℕ) (i b : ℕ) → i < n → g i ≡ b → ((j : ℕ) → j < n → (i ≡ j → ⊥) → g j ≡ f j) → set (table n f) i b ≡ table n g
set-table n f g i b h e rest =
    ext_get_or 0 (set (table n f) i b) (table n g)
    (length-set (table n f) i b ∙ length-table n f ∙ sym (length-table n g))
    (λ j l. at j (rw (length-set, length-table) at l))
  where
    at : (j : ℕ) → j < n → get_or (set (table n f) i b) j 0 ≡ get_or (table n g) j 0
    at j l = by (ℕ_discrete i j)
      where
        by : Dec (i ≡ j) → get_or (set (table n f) i b) j 0 ≡ get_or (table n g) j 0
        by (yes same) = rw (← same) (get_or-set_same (table n f) i b 0 (rw length-table h) ∙ sym e ∙ sym (table_at n g i h))
        by (no other) = get_or-set_other (table n f) i j b 0 (λ back. other (sym back)) ∙ table_at n f j l ∙ sym (rest j l other) ∙ sym (table_at n g j l)
