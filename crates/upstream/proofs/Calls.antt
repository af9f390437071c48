-- What any promise gives of the clauses that upstream has for every call: when it is ok, that the buffer keeps its length, what is written, and that
-- the rest is kept. Assumes nothing.
use Prim.Native.Nat.{ℕ, ◌≤◌, ◌<◌}
use mathlib.Core.Path.{◌≡◌, refl, sym, ◌∙◌}
use mathlib.Core.List.{List}
use lib.ListN.{length, get_or}
use Rattle.answer.specs.Outcome.{Outcome, done, refused, Fault, unless, Promise, Sound, First}
use Rattle.answer.specs.Table.{table, filled}
use Rattle.answer.proofs.Promised.{keeps, done-sound, sound-done, first-refused, finished}
use Rattle.answer.proofs.Filling.{length-filled, filled-front, filled_rest}
use Rattle.upstream.specs.Clause.{Ok}

-- an answer to a list of faults
module _ {A : Type 0} {answer : Outcome A} (fs : List Fault) (a : A) (p : answer ≡ unless fs a) where
  pub ok_sound : Ok answer → Sound fs
  ok_sound o = done-sound fs a o.0 (sym p ∙ o.1)

  pub sound-value : Sound fs → answer ≡ done a
  sound-value s = p ∙ sound-done a s

  pub sound_ok : Sound fs → Ok answer
  sound_ok s = (a, sound-value s)

  pub value-is : (b : A) → answer ≡ done b → b ≡ a
  value-is b e = let d = sound-done a (ok_sound (b, e)) in cc

  pub refused_for : {n : ℕ} → First fs n → answer ≡ refused n
  refused_for r = p ∙ first-refused a r

-- a call that writes n elements of f at the front of a buffer
module _ {A : Type 0} {answer : Outcome A} (fs : List Fault) (a : A) (n : ℕ) (f : ℕ → ℕ) (old new : List ℕ) (p : Promise (unless fs a) (table n f) old answer new) where
  pub written : Ok answer → new ≡ filled n f old
  written o = finished fs a n f old new (ok_sound fs a p.answers o) p

  pub untouched : (m : ℕ) → answer ≡ refused m → new ≡ old
  untouched m e = keeps m new (rw e at p)

  pub bytes-written : Ok answer → (k : ℕ) → k < n → get_or new k 0 ≡ f k
  bytes-written o k h = rw (written o) (filled-front n f old k h)

  pub rest_kept : (k : ℕ) → n ≤ k → get_or new k 0 ≡ get_or old k 0
  rest_kept k h = by answer refl
    where
      by : (x : Outcome A) → answer ≡ x → get_or new k 0 ≡ get_or old k 0
      by (done b) e = rw (written (b, e)) (filled_rest n f old k h)
      by (refused m) e = rw (untouched m e)

  pub length-kept : (Sound fs → n ≤ length old) → length new ≡ length old
  length-kept room = by answer refl
    where
      by : (x : Outcome A) → answer ≡ x → length new ≡ length old
      by (done b) e = rw (written (b, e)) (length-filled n f old (room (ok_sound fs a p.answers (b, e))))
      by (refused m) e = rw (untouched m e)
