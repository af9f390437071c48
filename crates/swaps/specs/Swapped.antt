-- What `swap_components` promises: each group of `width` bytes written backwards, widths 1 to 8; the refusals are rule 2.8's, in its order.
-- Bytes are moved, never read as numbers. Assumes nothing.
use Rattle.std.specs.Prelude.{ℕ, ◌+◌, ◌-◌, ◌%◌, ◌≤◌, ◌<◌, ◌≡◌, true, not, List, [], ◌∷◌, length, get_or, eqb, ltb}
use Rattle.answer.specs.Outcome.{Fault, unless, unsupported, invalid, output_too_small, Promise, outcome, Done}
use Rattle.answer.specs.Table.{table, filled, stores}
use Rattle.words.specs.Word.{word_at, Put, backwards}

-- the place that mirrors k in its group of `width` bytes
abbrev pub mirror : ℕ → ℕ → ℕ
mirror width k = k - k % width + (width - 1 - k % width)

abbrev pub swapped_at : List ℕ → ℕ → ℕ → ℕ
swapped_at raw width k = get_or raw (mirror width k) 0

-- each group of `width` bytes backwards
abbrev pub swap_faults : List ℕ → ℕ → List ℕ → List Fault
swap_faults raw width old =
    unsupported (eqb width 0)
    ∷ unsupported (ltb 8 width)
    ∷ invalid (not (eqb (length raw % width) 0))
    ∷ output_too_small (ltb (length old) (length raw))
    ∷ []

abbrev pub Swapped : List ℕ → ℕ → List ℕ → Done → List ℕ → Type 0
Swapped raw width old answer new =
    Promise (unless (swap_faults raw width old) tt) (table (length raw) (swapped_at raw width)) old (outcome answer) new

-- what the loops that swap need: whole groups, and room for them; and what they do
pub record SwapFits (raw : List ℕ) (width : ℕ) (out : List ℕ) : Type 0 where
  pub some : 0 < width
  pub few : width ≤ 8
  pub groups : length raw % width ≡ 0
  pub room : length raw ≤ length out

abbrev pub SwappedInto : List ℕ → ℕ → List ℕ → List ℕ → Type 0
SwappedInto raw width old new = new ≡ filled (length raw) (swapped_at raw width) old

-- some bytes stored backwards: where they are and where they go
pub record Room (raw : List ℕ) (from n : ℕ) (out : List ℕ) (at : ℕ) : Type 0 where
  pub there : from + n ≤ length raw
  pub here : at + n ≤ length out

abbrev pub Backwards : List ℕ → ℕ → ℕ → List ℕ → ℕ → List ℕ → Type 0
Backwards raw from n old at new = new ≡ stores old at n (λ p. get_or raw (from + (n - 1 - p)) 0)

-- the same of a word's bytes: the word that was read, and the word of its bytes backwards, which was stored
pub record AsWord (Stored : List ℕ → ℕ → ℕ → List ℕ → Type 0) (raw : List ℕ) (from n : ℕ) (old : List ℕ) (at : ℕ) (new : List ℕ) : Type 0 where
  pub word : ℕ
  pub read : word ≡ word_at raw from n true
  pub other : ℕ
  pub back : other ≡ backwards n word
  pub stored : Stored old at other new

-- in one piece
abbrev pub Whole : ℕ → List ℕ → ℕ → ℕ → List ℕ → Type 0
Whole n old at v new = Put old at n true v new
