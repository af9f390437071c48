-- A list of faults of which the first ones were looked for and not found; and what an answer says of the faults that its promise lists. Assumes nothing.
use Rattle.std.specs.Prelude.{Ok, Err}
use mathlib.Core.Path.{◌≡◌, refl, sym, ap, ◌∙◌}
use mathlib.Core.Bool.{false}
use mathlib.Core.List.{List, [], ◌∷◌, ◌++◌}
use Prim.Native.Nat.{ℕ}
use Rattle.answer.specs.Outcome.{Outcome, done, refused, Fault, unless, First, Sound, none, next, Step, Done}
use Rattle.answer.proofs.Promised.{done-value, done-sound, refused-first, refusing, finishing, sound_then, sound_more, step-sound, step-first}

-- the faults fs, of which those before gs are not found
pub record Past (fs gs : List Fault) : Type 0 where
  pub first : {n : ℕ} → First gs n → First fs n
  pub sound : Sound gs → Sound fs

pub past_none : (fs : List Fault) → Past fs fs
past_none fs = record { first = λ r. r; sound = λ s. s }

pub past_more : {fs hs : List Fault} (gs : List Fault) → Past fs (gs ++ hs) → Sound gs → Past fs hs
past_more gs p s = record { first = λ r. p.first (sound_then s r); sound = λ t. p.sound (sound_more s t) }

pub past_one : {fs : List Fault} {f : Fault} {gs : List Fault} → Past fs (f ∷ gs) → f.found ≡ false → Past fs gs
past_one {fs} {f} p e = past_more (f ∷ []) p (next e none)

-- a step that looked for the rest looked for all
pub past_step : {fs gs : List Fault} (a : Done) → Past fs gs → Step gs a → Step fs a
past_step {fs} (Ok tt) p s = record { passed = finishing fs tt (p.sound (step-sound s refl)) }
past_step {fs} (Err k) p s = record { passed = refusing fs tt (p.first (step-first s refl)) }

-- an answer that is the work: no fault was found; one that is a refusal: the first fault's
module _ {R A : Type 0} (outcome : R → Outcome A) (fs : List Fault) (a : A) {r known : R} (promised : outcome r ≡ unless fs a) (e : r ≡ known) where
  pub answered : {v : A} → outcome known ≡ done v → (v ≡ a) × Sound fs
  answered {v} is =
      let told : unless fs a ≡ done v = sym promised ∙ ap outcome e ∙ is in (sym (done-value fs a v told), done-sound fs a v told)

  pub declined : {n : ℕ} → outcome known ≡ refused n → First fs n
  declined {n} is = refused-first fs a n (sym promised ∙ ap outcome e ∙ is)
