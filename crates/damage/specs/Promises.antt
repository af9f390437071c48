-- What `marks` promises (rule 4.4): the order of refusals; the marks and their count; and that a mark stands exactly where
-- two strips, alike in every byte that is not damaged, have different samples. Assumes nothing.
use Rattle.std.specs.Prelude.{ℕ, ◌/◌, ◌<◌, ◌≡◌, Bool, List, [], ◌∷◌, ◌++◌, length, get_or, ltb}
use Rattle.answer.specs.Outcome.{Fault, unless, output_too_small, Promise, Sound, outcome, Answer}
use Rattle.answer.specs.Table.{table}
use Rattle.samples.specs.declared.Strip.{Strip}
use Rattle.samples.specs.Promises.{strip_faults}
use Rattle.damage.specs.Marks.{marked, mark_byte, counted, Differ}

-- as many samples as there are whole words
abbrev pub samples_of : List ℕ → Strip → ℕ
samples_of damage g = length damage / g.width

abbrev pub mark_faults : List ℕ → Strip → List ℕ → List Fault
mark_faults damage g old = strip_faults (length damage) g ++ (output_too_small (ltb (length old) (samples_of damage g)) ∷ [])

pub record Marked (damage : List ℕ) (g : Strip) (predict : Bool) (old : List ℕ) (answer : Answer ℕ) (new : List ℕ) : Type 0 where
  pub promise : Promise (unless (mark_faults damage g old) (counted (samples_of damage g) (marked g predict damage))) (table (samples_of damage g) (λ n. mark_byte (marked g predict damage n))) old (outcome answer) new
  pub exact : Sound (mark_faults damage g old) → (le : Bool) (n : ℕ) → n < samples_of damage g → (get_or new n 0 ≡ 1 → Differ g predict le damage n) × (Differ g predict le damage n → get_or new n 0 ≡ 1)
