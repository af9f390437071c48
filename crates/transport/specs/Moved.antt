-- What is promised of bytes that are moved and never read as numbers: a copy, and each byte's bits reversed.
-- Rules 2.9 and 2.10. Assumes nothing.
use Rattle.std.specs.Prelude.{ℕ, ◌-◌, ◌≡◌, List, [], ◌∷◌, length, get_or, ltb}
use Rattle.answer.specs.Outcome.{Fault, unless, output_too_small, Promise, outcome, Done}
use Rattle.answer.specs.Table.{table, filled}
use Rattle.words.specs.Digits.{digit, value}

-- a copy; a source longer than the output is OutputTooSmall
abbrev pub commit_faults : List ℕ → List ℕ → List Fault
commit_faults source old = output_too_small (ltb (length old) (length source)) ∷ []

abbrev pub Committed : List ℕ → List ℕ → Done → List ℕ → Type 0
Committed source old answer new =
    Promise (unless (commit_faults source old) tt) (table (length source) (λ k. get_or source k 0)) old (outcome answer) new

-- what the loop that copies does
abbrev pub CopiedInto : List ℕ → List ℕ → List ℕ → Type 0
CopiedInto source old new = new ≡ filled (length source) (λ k. get_or source k 0) old

-- bit i goes to bit 7 - i
abbrev pub reversed : ℕ → ℕ
reversed v = value 2 8 (λ i. digit 2 (7 - i) v)

-- every byte reversed; it never refuses
abbrev pub Reversed : List ℕ → List ℕ → Type 0
Reversed old new = new ≡ table (length old) (λ k. reversed (get_or old k 0))
