-- What a call comes to, and what a promise says of it.
-- Every promise of every crate is put together from these parts. Assumes nothing.
use Prim.{Unit}
use Rattle.std.specs.Prelude.{ℕ, ◌≡◌, Bool, true, false, not, List, [], ◌∷◌, ◌++◌, length, drop, Result, Ok, Err}
use Rattle.answer.specs.declared.Refusal.{Refusal}
use Rattle.answer.specs.declared.ByteAt.{ByteAt}
use Rattle.answer.specs.declared.Refusal.TheVariants.{Unsupported, Invalid, Truncated, OutputTooSmall, Limit}

-- rule 1.1's number of a kind
abbrev pub number : Refusal → ℕ
number Unsupported = 1
number Invalid = 2
number Truncated = 3
number OutputTooSmall = 4
number Limit = 5

-- the finished work, with what it answers, or the number of a refusal
pub data Outcome (A : Type 0) : Type 0 where
  done : A → Outcome A
  refused : ℕ → Outcome A

-- a test that finds a fault, and the number of the refusal that it leads to
pub record Fault : Type 0 where
  pub found : Bool
  pub kind : ℕ

abbrev pub unsupported : Bool → Fault
unsupported t = record { found = t; kind = 1 }

abbrev pub invalid : Bool → Fault
invalid t = record { found = t; kind = 2 }

abbrev pub truncated : Bool → Fault
truncated t = record { found = t; kind = 3 }

abbrev pub output_too_small : Bool → Fault
output_too_small t = record { found = t; kind = 4 }

abbrev pub limit : Bool → Fault
limit t = record { found = t; kind = 5 }

abbrev pub pick : {A : Type 0} → Bool → A → A → A
pick true a b = a
pick false a b = b

-- one of the two, and not both
abbrev pub xor : Bool → Bool → Bool
xor true b = not b
xor false b = b

-- the first fault that is found decides; with none, the work is done (rule 1.2)
abbrev pub unless : {A : Type 0} → List Fault → A → Outcome A
unless [] a = done a
unless (f ∷ fs) a = pick f.found (refused f.kind) (unless fs a)

-- a lent buffer after the call: the work at its front, or, on a refusal, as it was (rules 1.3 and 1.4)
abbrev pub after : {A : Type 0} → Outcome A → List ℕ → List ℕ → List ℕ
after (done a) written old = written ++ drop (length written) old
after (refused n) written old = old

-- what else a call hands back: the new, or, on a refusal, the old
abbrev pub instead : {A B : Type 0} → Outcome A → B → B → B
instead (done a) new old = new
instead (refused n) new old = old

-- the promise of a call: its answer, and what its lent buffer then holds
pub record Promise {A : Type 0} (outcome : Outcome A) (written old : List ℕ) (answer : Outcome A) (new : List ℕ) : Type 0 where
  pub answers : answer ≡ outcome
  pub leaves : new ≡ after outcome written old

-- what a call answers: a value or a refusal; and where its work is all in a lent buffer, that it is done
abbrev pub Answer : Type 0 → Type 0
Answer A = Result A Refusal

abbrev pub Done : Type 0
Done = Answer (Unit {0})

-- what an answer comes to: its value, or rule 1.1's number of the refusal
abbrev pub outcome : {A : Type 0} → Answer A → Outcome A
outcome (Ok a) = done a
outcome (Err k) = refused (number k)

-- the same of a place in bytes
abbrev pub place_outcome : Answer ByteAt → Outcome ℕ
place_outcome (Ok at) = done at.0
place_outcome (Err k) = refused (number k)

-- a step that looked for faults and answered the first: a record, so that its list is told from its type
pub record Step (faults : List Fault) (answer : Done) : Type 0 where
  pub passed : outcome answer ≡ unless faults tt

abbrev pub fault_of : Bool → Refusal → Fault
fault_of found kind = record { found = found; kind = number kind }

-- one step after another: an answer for both lists of faults, end to end
abbrev pub InOrder : Done → Done → Done → Type 0
InOrder one later answer = (fs gs : List Fault) → Step fs one → Step gs later → Step (fs ++ gs) answer

-- the first fault of a list that is found leads to the refusal n
pub data First : List Fault → ℕ → Type 0 where
  here : {f : Fault} {fs : List Fault} → f.found ≡ true → First (f ∷ fs) f.kind
  later : {f : Fault} {fs : List Fault} {n : ℕ} → f.found ≡ false → First fs n → First (f ∷ fs) n

-- no fault of a list is found
pub data Sound : List Fault → Type 0 where
  none : Sound []
  next : {f : Fault} {fs : List Fault} → f.found ≡ false → Sound fs → Sound (f ∷ fs)
