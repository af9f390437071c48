-- A call whose answer is known, a refusal or a value, keeps its promise by that answer's number and what it lends back.
-- Calls that match on an answer cite it in each arm. Assumes nothing.
use Prim.Native.Nat.{ℕ}
use mathlib.Core.Path.{◌≡◌, sym, subst}
use Rattle.answer.specs.Outcome.{Outcome}
use Rattle.capi.specs.Told.{status, lent, Lent}

pub telling : {D A : Type 0} {outcome : D → Outcome A} {Allowed : D → Type 0} {r : ℕ} {old new : A} {d known : D} → d ≡ known → Allowed d → r ≡ status (outcome known) → new ≡ lent (outcome known) old → Lent outcome Allowed r old new
telling {D} {A} {outcome} {Allowed} {r} {old} {new} {d} {known} e holds number_is value-is =
    record { answer = known; allowed = subst Allowed e holds; number_is = number_is; value-is = value-is }

-- what is promised of the answer that was told
pub lent_as : {D A : Type 0} {outcome : D → Outcome A} {Allowed : D → Type 0} {r : ℕ} {old new : A} {d : D} → Lent outcome (λ a. a ≡ d) r old new → Allowed d → Lent outcome Allowed r old new
lent_as {D} {A} {outcome} {Allowed} told holds =
    record { answer = told.answer; allowed = subst Allowed (sym told.allowed) holds; number_is = told.number_is; value-is = told.value-is }
