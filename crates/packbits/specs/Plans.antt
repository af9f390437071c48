-- A row that is packed: a plan of packets, the rules that it keeps, and what it writes (rules 17.7 to 17.9). Assumes nothing.
use Rattle.std.specs.Prelude.{ℕ, zero, suc, ◌+◌, ◌-◌, ◌/◌, ◌≤◌, ◌<◌, ◌≡◌, Bool, not, ◌&&◌, List, [], ◌∷◌, ◌++◌, length, get_or, take, drop, eqb, ltb, leb}
use Rattle.answer.specs.Outcome.{Fault, unless, invalid, output_too_small, pick, Promise, outcome, Answer}
use Rattle.laws.specs.Turns.{every, sum}

-- a packet that is planned: literal (0) or repeat (1), and of how many bytes of the row
pub record Planned : Type 0 where
  pub kind : ℕ
  pub bytes : ℕ

abbrev pub plan_of : List ℕ → List ℕ → List Planned
plan_of [] lengths = []
plan_of (k ∷ kinds) [] = []
plan_of (k ∷ kinds) (n ∷ lengths) = record { kind = k; bytes = n } ∷ plan_of kinds lengths

-- the rules of a packet over what is left of the row
abbrev pub alike : ℕ → List ℕ → Bool
alike n row = every n (λ k. eqb (get_or row k 0) (get_or row 0 0))

unfoldable pub literal_rule : ℕ → Bool
literal_rule n = leb 1 n && leb n 128

unfoldable pub repeat_rule : ℕ → List ℕ → Bool
repeat_rule n row = leb 2 n && leb n 128 && alike n row

unfoldable pub kept : List ℕ → Planned → Bool
kept row p =
    leb p.bytes (length row)
    && pick (eqb p.kind 0) (literal_rule p.bytes) (eqb p.kind 1 && repeat_rule p.bytes row)

-- a plan keeps them packet by packet, and its lengths add up to the row
abbrev pub keeps : List ℕ → List Planned → Bool
keeps row [] = eqb (length row) 0
keeps row (p ∷ plan) = kept row p && keeps (drop p.bytes row) plan

-- the same in plain words: packet k has the bytes from where the lengths before it end, and all lengths are the row's
abbrev pub start_of : List ℕ → ℕ → ℕ
start_of lengths k = sum k (λ j. get_or lengths j 0)

pub data PacketRule (row : List ℕ) (start kind n : ℕ) : Type 0 where
  literal : kind ≡ 0 → 1 ≤ n → n ≤ 128 → PacketRule row start kind n
  repeat : kind ≡ 1 → 2 ≤ n → n ≤ 128 → ((j : ℕ) → j < n → get_or row (start + j) 0 ≡ get_or row start 0) → PacketRule row start kind n

pub record PlanRules (row kinds lengths : List ℕ) : Type 0 where
  pub paired : length kinds ≡ length lengths
  pub adds_up : start_of lengths (length kinds) ≡ length row
  pub each : (k : ℕ) → k < length kinds → PacketRule row (start_of lengths k) (get_or kinds k 0) (get_or lengths k 0)

-- what a packet is written as, and a plan
unfoldable pub packet_of : List ℕ → Planned → List ℕ
packet_of row p = pick (eqb p.kind 0) ((p.bytes - 1) ∷ take p.bytes row) ((257 - p.bytes) ∷ get_or row 0 0 ∷ [])

abbrev pub plan_bytes : List ℕ → List Planned → List ℕ
plan_bytes row [] = []
plan_bytes row (p ∷ plan) = packet_of row p ++ plan_bytes (drop p.bytes row) plan

-- without a plan: literals of 128 bytes, and a shorter last one
abbrev pub literals : ℕ → ℕ → List Planned
literals zero n = []
literals (suc packets) n = record { kind = 0; bytes = pick (ltb 128 n) 128 n } ∷ literals packets (n - 128)

abbrev pub literals_of : ℕ → ℕ
literals_of n = (n + 127) / 128

abbrev pub plain_plan : List ℕ → List Planned
plain_plan row = literals (literals_of (length row)) (length row)

abbrev pub plan_faults : List ℕ → List ℕ → List ℕ → List ℕ → List Fault
plan_faults row kinds lengths old =
    invalid (not (eqb (length kinds) (length lengths)))
    ∷ invalid (not (keeps row (plan_of kinds lengths)))
    ∷ output_too_small (ltb (length old) (length (plan_bytes row (plan_of kinds lengths))))
    ∷ []

abbrev pub PlanWritten : List ℕ → List ℕ → List ℕ → List ℕ → Answer ℕ → List ℕ → Type 0
PlanWritten row kinds lengths old answer new =
    let written = plan_bytes row (plan_of kinds lengths) in
    Promise (unless (plan_faults row kinds lengths old) (length written)) written old (outcome answer) new

abbrev pub pack_faults : List ℕ → List ℕ → List Fault
pack_faults row old = output_too_small (ltb (length old) (length (plan_bytes row (plain_plan row)))) ∷ []

abbrev pub RowPacked : List ℕ → List ℕ → Answer ℕ → List ℕ → Type 0
RowPacked row old answer new =
    let written = plan_bytes row (plain_plan row) in
    Promise (unless (pack_faults row old) (length written)) written old (outcome answer) new
