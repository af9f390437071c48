-- What the crate's own functions need and answer. Assumes nothing.
use Rattle.std.specs.Prelude.{ℕ, ◌+◌, ◌-◌, ◌≤◌, ◌≡◌, Bool, true, ◌&&◌, List, [], ◌∷◌, ◌++◌, length, get_or, take, drop, eqb, ltb, leb}
use Rattle.answer.specs.Outcome.{Fault, Sound, output_too_small, pick}
use Rattle.packbits.specs.declared.reading.Header.{Header}
use Rattle.packbits.specs.declared.reading.Header.TheVariants.{Copies, Rests, Repeats}
use Rattle.packbits.specs.Rows.{Packet, row_faults, row_bytes}
use Rattle.packbits.specs.Plans.{Planned, plan_of, kept, keeps, packet_of, plan_bytes, literals_of, plain_plan}

-- the packet at a place of the input
abbrev pub begun : List ℕ → ℕ → ℕ → Packet
begun packed at left = record { input = drop at packed; left = left }

-- what a first byte says, and how many bytes of the row its packet fills and of the input it takes
abbrev pub header_of : ℕ → Header
header_of h = pick (ltb h 128) (Copies (h + 1)) (pick (eqb h 128) Rests (Repeats (257 - h)))

abbrev pub header_fills : Header → ℕ
header_fills (Copies n) = n
header_fills Rests = 0
header_fills (Repeats n) = n

abbrev pub header_takes : Header → ℕ
header_takes (Copies n) = n + 1
header_takes Rests = 1
header_takes (Repeats n) = 2

-- a buffer into which bytes were put from a place on
abbrev pub put_at : ℕ → List ℕ → List ℕ → List ℕ
put_at to bytes old = take to old ++ (bytes ++ drop (to + length bytes) old)

-- or into which more were put: the bytes behind them are of no account
pub record Placed (to : ℕ) (bytes old new : List ℕ) : Type 0 where
  pub same : length new ≡ length old
  pub front : take (to + length bytes) new ≡ take to old ++ bytes

-- a literal of 128 bytes, all there and within what is left of the row; and a packet that does nothing
abbrev pub whole_literal : List ℕ → ℕ → ℕ → Bool
whole_literal packed at left = leb 129 (length packed - at) && leb 128 left && eqb (get_or packed at 0) 127

abbrev pub does_nothing : List ℕ → ℕ → Bool
does_nothing packed at = ltb at (length packed) && eqb (get_or packed at 0) 128

-- n bytes of a source into a buffer
abbrev pub bytes_at : List ℕ → ℕ → ℕ → List ℕ
bytes_at source begin n = take n (drop begin source)

abbrev pub CopyFits : List ℕ → ℕ → ℕ → List ℕ → ℕ → Type 0
CopyFits source begin n out to = (begin + n ≤ length source) × (to + n ≤ length out)

-- all of a row
abbrev pub RowFits : List ℕ → List ℕ → Type 0
RowFits packed row = Sound (row_faults packed (length row))

abbrev pub RowFilled : List ℕ → List ℕ → List ℕ → Type 0
RowFilled packed old new = new ≡ row_bytes packed (length old)

-- the bytes of a planned packet, and of a plan
abbrev pub packet_length : Planned → ℕ
packet_length p = pick (eqb p.kind 0) (p.bytes + 1) 2

abbrev pub plan_length : List Planned → ℕ
plan_length [] = 0
plan_length (p ∷ plan) = packet_length p + plan_length plan

abbrev pub room_faults : ℕ → List Planned → List Fault
room_faults room plan = output_too_small (ltb room (plan_length plan)) ∷ []

-- one planned packet into the output, and all of them
abbrev pub Literal : ℕ → Planned
Literal n = record { kind = 0; bytes = n }

pub record PlannedFits (row : List ℕ) (at : ℕ) (p : Planned) (out : List ℕ) (to : ℕ) : Type 0 where
  pub inside : at ≤ length row
  pub keeps_rules : kept (drop at row) p ≡ true
  pub room : to + packet_length p ≤ length out

abbrev pub PlannedPut : List ℕ → ℕ → Planned → List ℕ → ℕ → List ℕ → Type 0
PlannedPut row at p old to new = Placed to (packet_of (drop at row) p) old new

pub record PlanFits (row kinds lengths out : List ℕ) : Type 0 where
  pub paired : length kinds ≡ length lengths
  pub keeps_rules : keeps row (plan_of kinds lengths) ≡ true
  pub exact : plan_length (plan_of kinds lengths) ≡ length out

abbrev pub PlanPut : List ℕ → List ℕ → List ℕ → List ℕ → Type 0
PlanPut row kinds lengths new = new ≡ plan_bytes row (plan_of kinds lengths)

abbrev pub LiteralsFit : List ℕ → List ℕ → Type 0
LiteralsFit row out = length row + literals_of (length row) ≡ length out

abbrev pub LiteralsPut : List ℕ → List ℕ → Type 0
LiteralsPut row new = new ≡ plan_bytes row (plain_plan row)
