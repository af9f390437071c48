-- What starting, a piece and closing promise (rules 16.1 to 16.5). Assumes nothing.
use Prim.{Unit}
use Rattle.std.specs.Prelude.{ℕ, ◌+◌, ◌-◌, ◌*◌, ◌/◌, ◌%◌, ◌≡◌, Bool, false, not, List, [], ◌∷◌, ◌++◌, length, take, eqb, ltb}
use Rattle.answer.specs.Outcome.{Outcome, done, Fault, unless, invalid, output_too_small, limit, instead, Promise, outcome, Answer, Done}
use Rattle.answer.specs.Table.{table}
use Rattle.words.specs.Word.{Bytes}
use Rattle.samples.specs.Sample.{stored_at}
use Rattle.samples.specs.Promises.{strip_faults}
use Rattle.packets.specs.declared.Plan.{Plan}
use Rattle.packets.specs.declared.Packets.{Packets}
use Rattle.packets.specs.declared.Started.{Started}
use Rattle.packets.specs.declared.Stepped.{Stepped}
use Rattle.packets.specs.State.{geometry, sample_of, state_at, most, consistent, behind}

unfoldable pub no_tail : List ℕ
no_tail = table 8 (λ j. 0)

unfoldable pub no_sums : List ℕ
no_sums = table 64 (λ j. 0)

abbrev pub plan : ℕ → ℕ → ℕ → Bool → Bool → Bool → Plan
plan row channels width le predict out_le = record { row_bytes = row; channels = channels; width = width; le = le; predict = predict; out_le = out_le }

-- the state of which every number is 0, to which nothing leads: what a refused start hands back
unfoldable pub nowhere : Packets
nowhere = record { plan = plan 0 0 0 false false false; received = 0; tail = no_tail; sums = no_sums }

-- starting: `convert`'s refusals for the geometry of an empty strip
abbrev pub starting : Plan → Outcome (Unit {0})
starting p = unless (strip_faults 0 (geometry p)) tt

pub record Begun (p : Plan) (r : Started) : Type 0 where
  pub answers : outcome r.answer ≡ starting p
  pub state : r.state ≡ instead (starting p) (state_at p [] 0) nowhere

-- the bytes of the samples that n more bytes complete
abbrev pub completes : Packets → ℕ → ℕ
completes st n = ((st.received + n) / st.plan.width - st.received / st.plan.width) * st.plan.width

abbrev pub piece_faults : Packets → List ℕ → List ℕ → List Fault
piece_faults st piece old =
    invalid (not (consistent st)) ∷ limit (ltb most (st.received + length piece)) ∷ output_too_small (ltb (length old) (completes st (length piece))) ∷ []

-- byte k of what a piece writes: the stored samples of the strip that goes on with the piece, from the first that was not finished
abbrev pub continued_at : Packets → List ℕ → ℕ → ℕ
continued_at st piece k =
    stored_at st.plan.width st.plan.out_le (sample_of st.plan (behind st ++ piece)) (st.received / st.plan.width * st.plan.width + k)

-- the state that the strip which goes on with the piece leads to
abbrev pub continued : Packets → List ℕ → Packets
continued st piece = state_at st.plan (behind st ++ piece) (st.received + length piece)

pub record Took (st : Packets) (piece old : List ℕ) (r : Stepped) (new : List ℕ) : Type 0 where
  pub writes : Promise (unless (piece_faults st piece old) (completes st (length piece))) (table (completes st (length piece)) (continued_at st piece)) old (outcome r.answer) new
  pub state : r.state ≡ instead (unless (piece_faults st piece old) (completes st (length piece))) (continued st piece) st

-- a state as its parts
abbrev pub state : Plan → ℕ → List ℕ → List ℕ → Packets
state p k tail sums = record { plan = p; received = k; tail = tail; sums = sums }

-- a piece of a strip whose state's parts are lent: lists of other lengths are no state's
abbrev pub lent_faults : Packets → List ℕ → List ℕ → List Fault
lent_faults st piece old = invalid (not (eqb (length st.tail) 8)) ∷ invalid (not (eqb (length st.sums) 64)) ∷ piece_faults st piece old

abbrev pub lent_taking : Packets → List ℕ → List ℕ → Outcome ℕ
lent_taking st piece old = unless (lent_faults st piece old) (completes st (length piece))

pub record TookLent (st : Packets) (piece old : List ℕ) (answer : Answer ℕ) (tail sums new : List ℕ) : Type 0 where
  pub writes : Promise (lent_taking st piece old) (table (completes st (length piece)) (continued_at st piece)) old (outcome answer) new
  pub tails : tail ≡ instead (lent_taking st piece old) (continued st piece).tail st.tail
  pub sums_are : sums ≡ instead (lent_taking st piece old) (continued st piece).sums st.sums

-- closing: whole rows have come
abbrev pub close_faults : Packets → List Fault
close_faults st = invalid (not (consistent st)) ∷ invalid (not (eqb (st.received % st.plan.row_bytes) 0)) ∷ []

abbrev pub Closed : Packets → Done → Type 0
Closed st answer = outcome answer ≡ unless (close_faults st) tt

-- a state to which a start and pieces lead: calls that kept their promises and did not refuse
pub data Reached : Packets → Type 0 where
  begun : {p : Plan} {r : Started} → Begun p r → outcome r.answer ≡ done tt → Reached r.state
  went : {st : Packets} {piece old new : List ℕ} {r : Stepped} {n : ℕ} → Reached st → Bytes piece → Took st piece old r new → outcome r.answer ≡ done n → Reached r.state

-- pieces, the latest first, put end to end
abbrev pub joined : List (List ℕ) → List ℕ
joined [] = []
joined (piece ∷ earlier) = joined earlier ++ piece

-- what a start and pieces that did not refuse leave: the pieces, the state, and what was written, put end to end
pub data Streamed (p : Plan) : List (List ℕ) → Packets → List ℕ → Type 0 where
  opened : {r : Started} → Begun p r → outcome r.answer ≡ done tt → Streamed p [] r.state []
  fed : {pieces : List (List ℕ)} {st : Packets} {out piece old new : List ℕ} {r : Stepped} {n : ℕ} → Streamed p pieces st out → Bytes piece → Took st piece old r new → outcome r.answer ≡ done n → Streamed p (piece ∷ pieces) r.state (out ++ take n new)
