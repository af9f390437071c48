-- What the exit of a `?` hands on: the refusal of the call, as the answer of the function. Assumes nothing.
use Rattle.std.specs.Prelude.{Err}
use Rattle.std.specs.Result.{IsErr, IsErrAnd}
use Rattle.std.proofs.lemmas.Result.{err_from_is_err_and}
use mathlib.Core.Path.{◌≡◌, ap, ◌∙◌}
use mathlib.Core.List.{List, ◌++◌}
use Rattle.answer.specs.declared.Refusal.{Refusal}
use Rattle.answer.specs.Outcome.{Answer, Done, refused, Fault, number, outcome, Step}
use Rattle.answer.proofs.Promised.{refusing, first_more, step-first}

abbrev pub Handed : {A : Type 0} → Answer A → Refusal → Type 0
Handed r k = IsErr r × IsErrAnd r (λ e. e ≡ k)

pub handed : {A : Type 0} (r : Answer A) (k : Refusal) → Handed r k → r ≡ Err k
handed r k h = let e = err_from_is_err_and r h.1 in e.1 ∙ ap Err e.2

-- so it comes to the number of that refusal
pub handed_outcome : {A : Type 0} (r : Answer A) (k : Refusal) → Handed r k → outcome r ≡ refused (number k)
handed_outcome r k h = ap outcome (handed r k h)

-- the first step's refusal, whatever is looked for after it
pub step-handed : {fs : List Fault} (gs : List Fault) {a : Done} {r : Done} {k : Refusal} → Step fs a → a ≡ Err k → Handed r k → Step (fs ++ gs) r
step-handed {fs} gs {a} {r} {k} p e h = record { passed = handed_outcome r k h ∙ refusing (fs ++ gs) tt (first_more gs (step-first p e)) }
