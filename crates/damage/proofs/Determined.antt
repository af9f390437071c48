-- The promise of this crate allows one outcome. Assumes nothing.
use mathlib.Core.Path.{◌≡◌}
use mathlib.Core.Bool.{Bool}
use mathlib.Core.List.{List}
use Prim.Native.Nat.{ℕ}
use Rattle.answer.specs.Outcome.{outcome, Answer}
use Rattle.answer.proofs.Promised.{determined, answer_once}
use Rattle.samples.specs.declared.Strip.{Strip}
use Rattle.damage.specs.Promises.{Marked}

pub marks_determined : (damage : List ℕ) (g : Strip) (predict : Bool) (old : List ℕ) (a b : Answer ℕ) (x y : List ℕ) → Marked damage g predict old a x → Marked damage g predict old b y → (a ≡ b) × (x ≡ y)
marks_determined damage g predict old a b x y p q =
    let one = determined (outcome a) (outcome b) x y p.promise q.promise in
    (answer_once a b one.0, one.1)
