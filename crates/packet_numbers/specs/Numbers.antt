-- A state of packets as 80 numbers, in the order that rule 9.9 gives, of which three are flags and the last eight are not used. Assumes nothing.
use Rattle.std.specs.Prelude.{ℕ, ◌+◌, ◌≡◌, Bool, true, false, not, ◌||◌, List, length, get_or, eqb, ltb, Ok, Err}
use Rattle.answer.specs.Outcome.{pick, Answer, Done}
use Rattle.answer.specs.Table.{table, stores}
use Rattle.answer.specs.declared.Refusal.{Refusal}
use Rattle.answer.specs.declared.Refusal.TheVariants.{Invalid}
use Rattle.words.specs.Digits.{digit}
use Rattle.laws.specs.Turns.{every}
use Rattle.packets.specs.declared.Plan.{Plan}
use Rattle.packets.specs.declared.Packets.{Packets}
use Rattle.packets.specs.declared.Stepped.{Stepped}
use Rattle.packets.specs.Promises.{plan, Took, Closed}

-- a flag as a number, and a number as a flag
abbrev pub flag_of : Bool → ℕ
flag_of b = pick b 1 0

abbrev pub is_set : List ℕ → ℕ → Bool
is_set s n = not (eqb (get_or s n 0) 0)

-- the eight bytes of a number, the least significant first; and the sums, from number 8 on
abbrev pub tail_of : ℕ → List ℕ
tail_of v = table 8 (λ j. digit 256 j v)

unfoldable pub sums_in : List ℕ → List ℕ
sums_in s = table 64 (λ j. get_or s (8 + j) 0)

abbrev pub plan_in : List ℕ → Plan
plan_in s = plan (get_or s 0 0) (get_or s 1 0) (get_or s 2 0) (is_set s 3) (is_set s 4) (is_set s 5)

abbrev pub state_of : List ℕ → Packets
state_of s = record { plan = plan_in s; received = get_or s 6 0; tail = tail_of (get_or s 7 0); sums = sums_in s }

-- number 72 + j, which is not used, is 0
abbrev pub unused : List ℕ → ℕ → Bool
unused s j = eqb (get_or s (72 + j) 0) 0

unfoldable pub all_unused : List ℕ → Bool
all_unused s = every 8 (unused s)

-- there are not 80 of them, a flag is neither 0 nor 1, or a number that is not used is not 0
abbrev pub strays : List ℕ → Bool
strays s = not (eqb (length s) 80) || (((ltb 1 (get_or s 3 0) || ltb 1 (get_or s 4 0)) || ltb 1 (get_or s 5 0)) || not (all_unused s))

-- the numbers of which all but the sums are 0
unfoldable pub with_sums : List ℕ → List ℕ
with_sums sums = stores (table 80 (λ j. 0)) 8 64 (λ j. get_or sums j 0)

-- numbers that stand for a state
pub record Stands (st : Packets) (s : List ℕ) : Type 0 where
  pub kept : strays s ≡ false
  pub state : state_of s ≡ st

-- a piece: what is promised of the state that the numbers stand for, and which numbers are left
pub record PieceTaken (s piece old : List ℕ) (answer : Answer ℕ) (s' new : List ℕ) : Type 0 where
  pub stepped : Stepped
  pub allowed : Took (state_of s) piece old stepped new
  pub answers : answer ≡ stepped.answer
  pub goes_on : (n : ℕ) → answer ≡ Ok n → Stands stepped.state s'
  pub stays : (kind : Refusal) → answer ≡ Err kind → s' ≡ s

-- numbers that stand for no state are refused as Invalid, and nothing is written
pub record OnNumbers (s : List ℕ) (Promised Refused : Type 0) : Type 0 where
  pub kept : strays s ≡ false → Promised
  pub strayed : strays s ≡ true → Refused

abbrev pub PieceOn : List ℕ → List ℕ → List ℕ → Answer ℕ → List ℕ → List ℕ → Type 0
PieceOn s piece old answer s' new = OnNumbers s (PieceTaken s piece old answer s' new) ((answer ≡ Err Invalid) × ((s' ≡ s) × (new ≡ old)))

abbrev pub CloseOn : List ℕ → Done → Type 0
CloseOn s answer = OnNumbers s (Closed (state_of s) answer) (answer ≡ Err Invalid)
