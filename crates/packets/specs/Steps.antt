-- What the functions that take a piece's bytes need and do. Assumes nothing.
use Rattle.std.specs.Prelude.{ℕ, ◌+◌, ◌-◌, ◌%◌, ◌≤◌, ◌≡◌, true, List, eqb, length, get_or}
use Rattle.answer.specs.Outcome.{pick}
use Rattle.answer.specs.Table.{table, filled, stores}
use Rattle.packets.specs.declared.Plan.{Plan}
use Rattle.packets.specs.declared.Packets.{Packets}
use Rattle.packets.specs.State.{most, consistent}
use Rattle.packets.specs.Promises.{no_tail, state, completes, continued_at, continued}

-- what a state and a piece need, and what is done with them
pub record Feeds (st : Packets) (piece out : List ℕ) : Type 0 where
  pub passes : consistent st ≡ true
  pub tails : length st.tail ≡ 8
  pub sums : length st.sums ≡ 64
  pub fits : st.received + length piece ≤ most
  pub room : completes st (length piece) ≤ length out

pub record Fed (st : Packets) (piece old : List ℕ) (r : Packets) (new : List ℕ) : Type 0 where
  pub state-is : r ≡ continued st piece
  pub wrote : new ≡ filled (completes st (length piece)) (continued_at st piece) old

-- any bytes
abbrev pub BytesFeed : Plan → ℕ → List ℕ → List ℕ → List ℕ → List ℕ → Type 0
BytesFeed p k bytes tail sums out = Feeds (state p k tail sums) bytes out

abbrev pub BytesFed : Plan → ℕ → List ℕ → List ℕ → List ℕ → List ℕ → List ℕ → List ℕ → List ℕ → Type 0
BytesFed p k bytes tail sums old tail' sums' new = Fed (state p k tail sums) bytes old (state p (k + length bytes) tail' sums') new

-- whole words, between words
pub record WordsFeed (p : Plan) (k : ℕ) (raw sums out : List ℕ) : Type 0 where
  pub feeds : Feeds (state p k no_tail sums) raw out
  pub begins : k % p.width ≡ 0
  pub words : length raw % p.width ≡ 0

abbrev pub WordsFed : Plan → ℕ → List ℕ → List ℕ → List ℕ → List ℕ → List ℕ → Type 0
WordsFed p k raw sums old sums' new = BytesFed p k raw no_tail sums old no_tail sums' new

-- with prediction; from a row's start on; of one row
pub record Predicted (p : Plan) (k : ℕ) (raw sums out : List ℕ) : Type 0 where
  pub feed : WordsFeed p k raw sums out
  pub on : p.predict ≡ true

pub record RowsWords (p : Plan) (k : ℕ) (raw sums out : List ℕ) : Type 0 where
  pub predicted : Predicted p k raw sums out
  pub row_starts : k % p.row_bytes ≡ 0

pub record RowWords (p : Plan) (k place : ℕ) (raw sums out : List ℕ) : Type 0 where
  pub predicted : Predicted p k raw sums out
  pub there : place ≡ k % p.row_bytes
  pub inside : k % p.row_bytes + length raw ≤ p.row_bytes

-- up to the row's end, and past it
pub record Across (p : Plan) (k : ℕ) (raw sums out : List ℕ) : Type 0 where
  pub predicted : Predicted p k raw sums out
  pub enough : p.row_bytes - k % p.row_bytes ≤ length raw

-- one word
pub record OneWord (p : Plan) (k : ℕ) (raw sums out : List ℕ) : Type 0 where
  pub feed : WordsFeed p k raw sums out
  pub one : length raw ≡ p.width

-- from a word's start on
pub record FromWord (p : Plan) (k : ℕ) (bytes tail sums out : List ℕ) : Type 0 where
  pub feeds : BytesFeed p k bytes tail sums out
  pub begins : k % p.width ≡ 0

-- the bytes that a word lacks of which some have come
abbrev pub missing : ℕ → ℕ → ℕ
missing fill width = pick (eqb fill 0) 0 (width - fill)

-- those, and no others
pub record Finishes (p : Plan) (k fill : ℕ) (bytes tail sums out : List ℕ) : Type 0 where
  pub feeds : BytesFeed p k bytes tail sums out
  pub cut : fill ≡ k % p.width
  pub ends : length bytes ≡ missing fill p.width

-- nothing is left in a list
abbrev pub Cleared : List ℕ → List ℕ → Type 0
Cleared old new = new ≡ table (length old) (λ j. 0)

-- bytes behind the first of the tail
pub record HoldFits (bytes : List ℕ) (fill : ℕ) (tail : List ℕ) : Type 0 where
  pub room : fill + length bytes ≤ length tail

abbrev pub Held : List ℕ → ℕ → List ℕ → List ℕ → Type 0
Held bytes fill old new = new ≡ stores old fill (length bytes) (λ i. get_or bytes i 0)
