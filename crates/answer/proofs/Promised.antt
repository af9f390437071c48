-- What every promise gives: one answer and one content of the buffer, which a refusal leaves as it was and success changes at its front alone;
-- and of a list of faults: the refusal given is that of the first fault, and is given only then. Assumes nothing.
use Rattle.std.specs.Prelude.{Ok, Err}
use Rattle.std.specs.Result.{is_err}
use Prim.Native.Nat.{ℕ, zero, suc, ◌≤◌}
use mathlib.Core.Path.{◌≡◌, refl, sym, ap, ◌∙◌}
use mathlib.Core.Bool.{Bool, true, false}
use mathlib.Core.List.{List, [], ◌∷◌, ◌++◌}
use mathlib.Core.Logic.{◌⊎◌, inl, inr}
use native.Mathlib.Omega.{arith}
use lib.ListN.{length, take, drop, length-append, length-drop}
use lib.Seq.{take-append_seam, drop-append_seam}
use Rattle.answer.specs.declared.Refusal.{Refusal}
use Rattle.answer.specs.declared.Refusal.TheVariants.{Unsupported, Invalid, Truncated, OutputTooSmall, Limit}
use Rattle.answer.specs.Table.{table, filled}
use Rattle.answer.proofs.Filling.{whole, length-table}
use Rattle.answer.specs.declared.ByteAt.{ByteAt}
use Rattle.answer.specs.Outcome.{Answer, place_outcome, Outcome, done, refused, Fault, unless, Promise, after, number, Step, First, here, later, Sound, none, next, outcome, Done}

-- two outcomes that one promise allows are the same
pub determined : {A : Type 0} {o : Outcome A} {w old : List ℕ} (a b : Outcome A) (x y : List ℕ) → Promise o w old a x → Promise o w old b y → (a ≡ b) × (x ≡ y)
determined a b x y p q = (p.answers ∙ sym q.answers, p.leaves ∙ sym q.leaves)

-- what stands in the buffer goes by the answer
by_answer : {A : Type 0} {o : Outcome A} {w old : List ℕ} (a : Outcome A) (new : List ℕ) → Promise o w old a new → new ≡ after a w old
by_answer {A} {o} {w} {old} a new p = p.leaves ∙ ap (λ (x : Outcome A). after x w old) (sym p.answers)

-- a refusal writes no byte
pub keeps : {A : Type 0} {o : Outcome A} {w old : List ℕ} (n : ℕ) (new : List ℕ) → Promise o w old (refused n) new → new ≡ old
keeps n new p = by_answer (refused n) new p

-- success writes the work at the buffer's front
pub writes : {A : Type 0} {o : Outcome A} {w old : List ℕ} (a : A) (new : List ℕ) → Promise o w old (done a) new → take (length w) new ≡ w
writes {A} {o} {w} {old} a new p = rw (by_answer (done a) new p) (take-append_seam w (drop (length w) old))

-- and leaves what is past the work as it was
pub spares : {A : Type 0} {o : Outcome A} {w old : List ℕ} (a : A) (new : List ℕ) → Promise o w old (done a) new → drop (length w) new ≡ drop (length w) old
spares {A} {o} {w} {old} a new p = rw (by_answer (done a) new p) (drop-append_seam w (drop (length w) old))

-- two calls, the second over what the first wrote: what the second writes
pub second_over_first : {A B : Type 0} {o : Outcome A} {q : Outcome B} (n : ℕ) (f : ℕ → ℕ) (then : List ℕ → ℕ → ℕ) (old x old' y : List ℕ) (a : A) (b : B) → Promise o (table n f) old (done a) x → Promise q (table (length (take n x)) (then (take n x))) old' (done b) y → take n y ≡ table n (then (table n f))
second_over_first n f then old x old' y a b first second =
    let wrote : take n x ≡ table n f = rw (length-table n f) at (writes a x first) in
    rw (wrote, length-table n f, length-table n (then (table n f))) at (writes b y second)

-- with room for the work, the buffer keeps its length
pub stays : {A : Type 0} {o : Outcome A} {w old : List ℕ} (a : Outcome A) (new : List ℕ) → length w ≤ length old → Promise o w old a new → length new ≡ length old
stays {A} {o} {w} {old} a new room p = ap length (by_answer a new p) ∙ whichever a
  where
    whichever : (b : Outcome A) → length (after b w old) ≡ length old
    whichever (done x) = simp (length-append, length-drop) (omega arith)
    whichever (refused n) = refl

-- the first fault's refusal is given
pub first-refused : {A : Type 0} {fs : List Fault} {n : ℕ} (a : A) → First fs n → unless fs a ≡ refused n
first-refused a (here t) = rw t
first-refused a (later t r) = rw t (first-refused a r)

-- and with no fault the work is done
pub sound-done : {A : Type 0} {fs : List Fault} (a : A) → Sound fs → unless fs a ≡ done a
sound-done a none = refl
sound-done a (next t r) = rw t (sound-done a r)

-- one or the other holds of any list
either : (fs : List Fault) → Sound fs ⊎ ((n : ℕ) × First fs n)
either [] = inl none
either (f ∷ fs) = by f.found refl (either fs)
  where
    by : (b : Bool) → f.found ≡ b → Sound fs ⊎ ((n : ℕ) × First fs n) → Sound (f ∷ fs) ⊎ ((n : ℕ) × First (f ∷ fs) n)
    by true t r = inr (f.kind, here t)
    by false t (inl s) = inl (next t s)
    by false t (inr w) = inr (w.0, later t w.1)

-- so a refusal is given only for the first fault, and the work done only where there is none
pub refused-first : {A : Type 0} (fs : List Fault) (a : A) (n : ℕ) → unless fs a ≡ refused n → First fs n
refused-first fs a n e = by (either fs)
  where
    by : Sound fs ⊎ ((m : ℕ) × First fs m) → First fs n
    by (inl s) = let d = sound-done a s in absurd (let z : ◌≡◌ {A = ℕ} 0 1 = cc in omega arith)
    by (inr w) = let d = first-refused a w.1 in let same : w.0 ≡ n = cc in rw same at w.1

pub done-sound : {A : Type 0} (fs : List Fault) (a b : A) → unless fs a ≡ done b → Sound fs
done-sound fs a b e = by (either fs)
  where
    by : Sound fs ⊎ ((m : ℕ) × First fs m) → Sound fs
    by (inl s) = s
    by (inr w) = let d = first-refused a w.1 in absurd (let z : ◌≡◌ {A = ℕ} 0 1 = cc in omega arith)

pub done-value : {A : Type 0} (fs : List Fault) (a b : A) → unless fs a ≡ done b → a ≡ b
done-value fs a b e = let d = sound-done a (done-sound fs a b e) in cc

-- a refusal does not turn on what the work would have been
pub refused-same : {A B : Type 0} (fs : List Fault) (a : A) (b : B) (n : ℕ) → unless fs a ≡ refused n → unless fs b ≡ refused n
refused-same fs a b n e = first-refused b (refused-first fs a n e)

-- faults after faults
pub first_more : {fs : List Fault} {n : ℕ} (gs : List Fault) → First fs n → First (fs ++ gs) n
first_more gs (here t) = here t
first_more gs (later t r) = later t (first_more gs r)

pub sound_then : {fs gs : List Fault} {n : ℕ} → Sound fs → First gs n → First (fs ++ gs) n
sound_then none r = r
sound_then (next t s) r = later t (sound_then s r)

pub sound_more : {fs gs : List Fault} → Sound fs → Sound gs → Sound (fs ++ gs)
sound_more none r = r
sound_more (next t s) r = next t (sound_more s r)

pub sound-front : (fs gs : List Fault) → Sound (fs ++ gs) → Sound fs
sound-front [] gs s = none
sound-front (f ∷ fs) gs (next t s) = next t (sound-front fs gs s)

-- what an answer that was handed on says of its faults
pub refused_told : {A : Type 0} (fs : List Fault) (a : A) (r : Refusal) → refused (number r) ≡ unless fs a → First fs (number r)
refused_told fs a r e = refused-first fs a (number r) (sym e)

-- what an answer says of the faults that were looked for
pub passed : (fs : List Fault) (a : Done) → outcome a ≡ unless fs tt → a ≡ (Ok tt) → Sound fs
passed fs a p e = done-sound fs tt tt (sym p ∙ ap outcome e)

pub stopped : (fs : List Fault) (a : Done) (k : Refusal) → outcome a ≡ unless fs tt → a ≡ Err k → First fs (number k)
stopped fs a k p e = refused_told fs tt k (sym (ap outcome e) ∙ p)

pub no_error : (fs : List Fault) (a : Done) → outcome a ≡ unless fs tt → is_err a ≡ false → Sound fs
no_error fs (Ok u) p e = passed fs (Ok u) p refl
no_error fs (Err k) p e = absurd (let z : ◌≡◌ {A = ℕ} 0 1 = cc in omega arith)

pub some_error : (fs : List Fault) (a : Done) → outcome a ≡ unless fs tt → is_err a ≡ true → (n : ℕ) × First fs n
some_error fs (Ok u) p e = absurd (let z : ◌≡◌ {A = ℕ} 0 1 = cc in omega arith)
some_error fs (Err k) p e = (number k, stopped fs (Err k) k p refl)

-- with no fault in the first list the second decides
pub sound_skip : {A : Type 0} {fs : List Fault} (gs : List Fault) (a : A) → Sound fs → unless (fs ++ gs) a ≡ unless gs a
sound_skip gs a none = refl
sound_skip gs a (next t s) = rw t (sound_skip gs a s)

pub sound_back : (fs gs : List Fault) → Sound (fs ++ gs) → Sound gs
sound_back [] gs s = s
sound_back (f ∷ fs) gs (next t s) = sound_back fs gs s

-- how a promise with no buffer is met
pub refusing : {A : Type 0} (fs : List Fault) (a : A) {n : ℕ} → First fs n → refused n ≡ unless fs a
refusing fs a r = sym (first-refused a r)

pub finishing : {A : Type 0} (fs : List Fault) (a : A) → Sound fs → done a ≡ unless fs a
finishing fs a s = sym (sound-done a s)

-- how one with a buffer is met: by the first fault's refusal and an untouched buffer, or, with no fault, by a buffer filled with the work
pub refuses : {A : Type 0} (fs : List Fault) (a : A) (w old : List ℕ) {n : ℕ} → First fs n → Promise (unless fs a) w old (refused n) old
refuses {A} fs a w old r =
    record { answers = refusing fs a r; leaves = sym (ap (λ (o : Outcome A). after o w old) (first-refused a r)) }

pub finishes : {A : Type 0} (fs : List Fault) (a : A) (n : ℕ) (f : ℕ → ℕ) (old new : List ℕ) → Sound fs → new ≡ filled n f old → Promise (unless fs a) (table n f) old (done a) new
finishes {A} fs a n f old new s e =
    record { answers = finishing fs a s; leaves = e ∙ whole n f old ∙ sym (ap (λ (o : Outcome A). after o (table n f) old) (sound-done a s)) }

-- what a call without a fault leaves
pub finished : {A : Type 0} {answer : Outcome A} (fs : List Fault) (a : A) (n : ℕ) (f : ℕ → ℕ) (old new : List ℕ) → Sound fs → Promise (unless fs a) (table n f) old answer new → new ≡ filled n f old
finished {A} fs a n f old new s p = p.leaves ∙ ap (λ (o : Outcome A). after o (table n f) old) (sound-done a s) ∙ sym (whole n f old)

-- a call without a fault that hands on another's: the promise of one is that of the other, where both write the same
pub hands_on : {A : Type 0} (fs gs : List Fault) (a : A) (w v old new : List ℕ) (answer : Outcome A) → Sound fs → Sound gs → w ≡ v → Promise (unless fs a) w old answer new → Promise (unless gs a) v old answer new
hands_on {A} fs gs a w v old new answer s r e p =
    let same : unless fs a ≡ unless gs a = sound-done a s ∙ sym (sound-done a r) in
    record { answers = p.answers ∙ same; leaves = p.leaves ∙ ap (λ (o : Outcome A). after o w old) same ∙ ap (λ (x : List ℕ). after (unless gs a) x old) e }

pub sound-here : {f : Fault} {fs : List Fault} → Sound (f ∷ fs) → f.found ≡ false
sound-here (next t r) = t

pub sound_rest : {f : Fault} {fs : List Fault} → Sound (f ∷ fs) → Sound fs
sound_rest (next t r) = r

-- an answer is told by its number and values: each definition of them has a way back
abbrev pub kind : ℕ → Refusal
kind zero = Limit
kind (suc zero) = Unsupported
kind (suc (suc zero)) = Invalid
kind (suc (suc (suc zero))) = Truncated
kind (suc (suc (suc (suc zero)))) = OutputTooSmall
kind (suc (suc (suc (suc (suc n))))) = Limit

pub kind-number : (k : Refusal) → kind (number k) ≡ k
kind-number Unsupported = refl
kind-number Invalid = refl
kind-number Truncated = refl
kind-number OutputTooSmall = refl
kind-number Limit = refl

abbrev back : {A : Type 0} → Outcome A → Answer A
back (done a) = Ok a
back (refused n) = Err (kind n)

back_told : {A : Type 0} (a : Answer A) → back (outcome a) ≡ a
back_told (Ok a) = refl
back_told (Err k) = ap Err (kind-number k)

abbrev place_back : Outcome ℕ → Answer ByteAt
place_back (done n) = Ok (record { 0 = n })
place_back (refused n) = Err (kind n)

place_told : (a : Answer ByteAt) → place_back (place_outcome a) ≡ a
place_told (Ok at) = refl
place_told (Err k) = ap Err (kind-number k)

-- so answers of one outcome are one answer
pub once : {R O : Type 0} (to : R → O) (from : O → R) → ((r : R) → from (to r) ≡ r) → (a b : R) → to a ≡ to b → a ≡ b
once to from same a b e = sym (same a) ∙ ap from e ∙ same b

pub answer_once : {A : Type 0} (a b : Answer A) → outcome a ≡ outcome b → a ≡ b
answer_once = once outcome back back_told

pub place_once : (a b : Answer ByteAt) → place_outcome a ≡ place_outcome b → a ≡ b
place_once = once place_outcome place_back place_told

-- one promise of a call allows one answer and one content of the buffer
pub answer_determined : {A : Type 0} {o : Outcome A} {w old : List ℕ} (a b : Answer A) (x y : List ℕ) → Promise o w old (outcome a) x → Promise o w old (outcome b) y → (a ≡ b) × (x ≡ y)
answer_determined a b x y p q =
    let one = determined (outcome a) (outcome b) x y p q in (answer_once a b one.0, one.1)

-- what a step says of its faults
pub step-sound : {fs : List Fault} {a : Done} → Step fs a → a ≡ (Ok tt) → Sound fs
step-sound {fs} {a} p e = passed fs a p.passed e

pub step-first : {fs : List Fault} {a : Done} {k : Refusal} → Step fs a → a ≡ Err k → First fs (number k)
step-first {fs} {a} {k} p e = stopped fs a k p.passed e

-- steps one after another: a refusal stands, and where there is none the later list decides
pub step-refused : {fs : List Fault} (gs : List Fault) {a : Done} {k : Refusal} → Step fs a → a ≡ Err k → Step (fs ++ gs) (Err k)
step-refused {fs} gs p e = record { passed = refusing (fs ++ gs) tt (first_more gs (step-first p e)) }

pub step-on : {fs gs : List Fault} {a b : Done} → Step fs a → a ≡ (Ok tt) → Step gs b → Step (fs ++ gs) b
step-on {fs} {gs} p e q = record { passed = q.passed ∙ sym (sound_skip gs tt (step-sound p e)) }
