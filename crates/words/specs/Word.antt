-- TIFF 6.0's words: the first byte is the least significant when `le`, the most significant otherwise. One definition for any width.
-- And sums and differences of words, modulo 256^width. Rules 2.1 to 2.3. Assumes nothing.
use Prim.{Unit}
use Rattle.std.specs.Prelude.{ℕ, zero, suc, ◌+◌, ◌-◌, ◌/◌, ◌%◌, ◌^◌, ◌<◌, ◌≡◌, Bool, true, false, List, length, get_or}
use Rattle.answer.specs.Table.{stores}
use Rattle.words.specs.Digits.{digit, value}

-- where, among a word's bytes, its digit p stands; and which digit byte p is
abbrev pub ordered : Bool → ℕ → ℕ → ℕ
ordered true width p = p
ordered false width p = width - 1 - p

-- a list of bytes
abbrev pub Bytes : List ℕ → Type 0
Bytes s = (i : ℕ) → get_or s i 0 < 256

-- the word of the `width` bytes at a place
abbrev pub word_at : List ℕ → ℕ → ℕ → Bool → ℕ
word_at s at width le = value 256 width (λ p. get_or s (at + ordered le width p) 0)

-- a word's digits stored at a place, in a byte order
abbrev pub Put : List ℕ → ℕ → ℕ → Bool → ℕ → List ℕ → Type 0
Put old at width le v new = new ≡ stores old at width (λ p. digit 256 (ordered le width p) v)

-- the n places from `at` on, one by one: what n stores in a row need
abbrev pub Within : ℕ → ℕ → List ℕ → Type 0
Within at zero s = Unit {0}
Within at (suc n) s = Within at n s × (at + n < length s)

-- a word of eight bytes stored as its halves, the low one first
pub record PutHalves (old : List ℕ) (at v : ℕ) (new : List ℕ) : Type 0 where
  pub between : List ℕ
  pub low : Put old at 4 true (v % 4294967296) between
  pub high : Put between (at + 4) 4 true (v / 4294967296) new

-- the word whose bytes are those of v, backwards
abbrev pub backwards : ℕ → ℕ → ℕ
backwards width v = value 256 width (λ p. digit 256 (ordered false width p) v)

abbrev pub modulus : ℕ → ℕ
modulus width = 256 ^ width

-- a word and another, added and taken away
abbrev pub plus : ℕ → ℕ → ℕ → ℕ
plus width a b = (a + b) % modulus width

abbrev pub minus : ℕ → ℕ → ℕ → ℕ
minus width a b = (a + (modulus width - b)) % modulus width
