-- What a loop looks for over its turns 0, 1, .. below n: whether a test holds at each, the faults of each, one turn's after another's, a sum, and
-- lists end to end. Assumes nothing.
use Rattle.std.specs.Prelude.{ℕ, zero, suc, ◌+◌, Bool, true, ◌&&◌, List, [], ◌++◌}
use Rattle.answer.specs.Outcome.{Fault}

abbrev pub every : ℕ → (ℕ → Bool) → Bool
every zero t = true
every (suc n) t = every n t && t n

abbrev pub faults_below : ℕ → (ℕ → List Fault) → List Fault
faults_below zero f = []
faults_below (suc n) f = faults_below n f ++ f n

abbrev pub sum : ℕ → (ℕ → ℕ) → ℕ
sum zero f = 0
sum (suc n) f = sum n f + f n

abbrev pub end_to_end : ℕ → (ℕ → List ℕ) → List ℕ
end_to_end zero f = []
end_to_end (suc n) f = end_to_end n f ++ f n
