-- Each promise of this crate allows one outcome. Assumes nothing.
use Rattle.std.specs.Prelude.{Ok, Err}
use mathlib.Core.Path.{◌≡◌, refl, sym, ◌∙◌}
use mathlib.Core.Bool.{Bool, true}
use mathlib.Core.List.{List, [], ◌∷◌}
use Prim.Native.Nat.{ℕ}
use Rattle.answer.specs.declared.Refusal.{Refusal}
use Rattle.answer.specs.Outcome.{number, Fault, Step, fault_of, InOrder, Done}
use Rattle.answer.proofs.Promised.{answer_once}

pub number_determined : (kind : Refusal) (x y : ℕ) → x ≡ number kind → y ≡ number kind → x ≡ y
number_determined kind x y p q = p ∙ sym q

-- one list of faults has one first
pub step_once : {fs : List Fault} (a b : Done) → Step fs a → Step fs b → a ≡ b
step_once a b p q = answer_once a b (p.passed ∙ sym q.passed)

pub fault_determined : (found : Bool) (kind : Refusal) (a b : Done) → Step (fault_of found kind ∷ []) a → Step (fault_of found kind ∷ []) b → a ≡ b
fault_determined found kind = step_once

-- every answer is a step's
abbrev told : Done → List Fault
told (Ok tt) = []
told (Err k) = fault_of true k ∷ []

told_step : (a : Done) → Step (told a) a
told_step (Ok tt) = record { passed = refl }
told_step (Err k) = record { passed = refl }

pub first_of_determined : (one later a b : Done) → InOrder one later a → InOrder one later b → a ≡ b
first_of_determined one later a b p q = step_once a b (p _ _ (told_step one) (told_step later)) (q _ _ (told_step one) (told_step later))
