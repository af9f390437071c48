-- What a call from C promises: the number of an answer that the promise of the crate which does the work allows, and what is lent back.
-- Every call but `hamrisk_reverse_bits`, which never refuses, has one of these promises. Assumes nothing.
use Rattle.std.specs.Prelude.{ℕ, ◌≡◌, List, [], ◌∷◌}
use Rattle.answer.specs.Outcome.{Outcome, done, refused, outcome, Answer}
use Rattle.layout.specs.declared.RasterLayout.{RasterLayout}
use Rattle.packets.specs.declared.Plan.{Plan}
use Rattle.packets.specs.declared.Started.{Started}
use Rattle.packets.specs.Promises.{Begun}
use Rattle.packet_numbers.specs.Numbers.{Stands}

-- 0 for done, or rule 1.1's number of the refusal
abbrev pub status : {A : Type 0} → Outcome A → ℕ
status (done a) = 0
status (refused n) = n

-- a lent place after the call: the value, or, on a refusal, what it held before
abbrev pub lent : {A : Type 0} → Outcome A → A → A
lent (done v) old = v
lent (refused n) old = old

-- a call that answers a number alone
pub record Told {D A : Type 0} (outcome : D → Outcome A) (Allowed : D → Type 0) (r : ℕ) : Type 0 where
  pub answer : D
  pub allowed : Allowed answer
  pub number_is : r ≡ status (outcome answer)

-- a call that also lends a value back
pub record Lent {D A : Type 0} (outcome : D → Outcome A) (Allowed : D → Type 0) (r : ℕ) (old new : A) : Type 0 where
  pub answer : D
  pub allowed : Allowed answer
  pub number_is : r ≡ status (outcome answer)
  pub value-is : new ≡ lent (outcome answer) old

-- starting a strip of packets: numbers that stand for the state that is handed back, begun or of nothing, are lent
pub record StartTold (p : Plan) (r : ℕ) (new : List ℕ) : Type 0 where
  pub answer : Started
  pub allowed : Begun p answer
  pub number_is : r ≡ status (outcome answer.answer)
  pub stands : Stands answer.state new

-- an outcome of which f of the value is lent back
abbrev pub taking : {A B : Type 0} → (A → B) → Outcome A → Outcome B
taking f (done a) = done (f a)
taking f (refused n) = refused n

-- what `check_layout` lends back of the record: the seven numbers that follow from the rest
abbrev pub derived_of : RasterLayout → List ℕ
derived_of l =
    l.encoded_width ∷ l.plane_channels ∷ l.planes ∷ l.plane_len ∷ l.scratch_len ∷ l.output_len ∷ l.colors ∷ []

abbrev pub derived_outcome : Answer RasterLayout → Outcome (List ℕ)
derived_outcome answer = taking derived_of (outcome answer)
