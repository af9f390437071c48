-- The list of f at 0, 1, .. below n; and a buffer whose first n elements are that list and whose rest is as it was.
-- A promise says with `table` what is written, a loop's contract with `filled` how far. Assumes nothing.
use Rattle.std.specs.Prelude.{ℕ, zero, suc, ◌+◌, List, [], ◌∷◌, ◌++◌, drop, set}

abbrev pub table : {A : Type 0} → ℕ → (ℕ → A) → List A
table zero f = []
table (suc n) f = table n f ++ (f n ∷ [])

abbrev pub filled : ℕ → (ℕ → ℕ) → List ℕ → List ℕ
filled n f old = table n f ++ drop n old

-- n stores from a place on: g p at place + p
abbrev pub stores : List ℕ → ℕ → ℕ → (ℕ → ℕ) → List ℕ
stores out at zero g = out
stores out at (suc n) g = set (stores out at n g) (at + n) (g n)
