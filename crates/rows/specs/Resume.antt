-- What is promised of a row that is taken up in its middle (rule 16.6): each sample is its word and the sum so far of its channel, whose place
-- it takes. Assumes nothing.
use Rattle.std.specs.Prelude.{◌≡◌, ℕ, zero, suc, ◌+◌, ◌-◌, ◌*◌, ◌/◌, ◌%◌, ◌<◌, ◌≤◌, Bool, true, not, List, [], ◌∷◌, length, ◌==◌, nat_lt, slice_index, slice_set}
use Rattle.answer.specs.Outcome.{Fault, pick, unless, unsupported, invalid, output_too_small, instead, Promise, outcome, Done}
use Rattle.answer.specs.Table.{table, filled}
use Rattle.words.specs.Word.{word_at, plus}
use Rattle.words.specs.Promises.{served}
use Rattle.samples.specs.Sample.{word_of, stored_at}

-- the sums after n of the words w, the first of which is of channel `first`; the row begins with `start`
abbrev pub sums_after : ℕ → ℕ → ℕ → (ℕ → ℕ) → List ℕ → ℕ → List ℕ
sums_after first channels width w start zero = start
sums_after first channels width w start (suc n) =
    let so_far = sums_after first channels width w start n in
    let channel = (first + n) % channels in
    slice_set so_far channel (plus width (w n) (slice_index so_far channel))

-- sample n of them
abbrev pub sample_after : ℕ → ℕ → ℕ → (ℕ → ℕ) → List ℕ → ℕ → ℕ
sample_after first channels width w start n = plus width (w n) (slice_index (sums_after first channels width w start n) ((first + n) % channels))

-- byte k of what is written of them
abbrev pub resumed_at : List ℕ → ℕ → ℕ → ℕ → Bool → Bool → List ℕ → ℕ → ℕ
resumed_at raw first channels width le out_le start = stored_at width out_le (sample_after first channels width (word_of width le raw) start)

abbrev pub resume_faults : List ℕ → ℕ → ℕ → ℕ → List ℕ → List ℕ → List Fault
resume_faults raw first channels width start old =
    unsupported (not (served width))
    ∷ unsupported (nat_lt 64 channels)
    ∷ invalid (not (nat_lt first channels))
    ∷ invalid (nat_lt (length start) 64)
    ∷ invalid (not (length raw % width == 0))
    ∷ output_too_small (nat_lt (length old) (length raw))
    ∷ []

pub record RowResumed (raw : List ℕ) (first channels width : ℕ) (le out_le : Bool) (start old : List ℕ) (answer : Done) (after new : List ℕ) : Type 0 where
  pub writes : Promise (unless (resume_faults raw first channels width start old) tt) (table (length raw) (resumed_at raw first channels width le out_le start)) old (outcome answer) new
  pub sums : after ≡ instead (unless (resume_faults raw first channels width start old) (tt {0})) (sums_after first channels width (word_of width le raw) start (length raw / width)) start

-- what the private functions need of such words, and what they do
pub record RunFits (raw : List ℕ) (first channels width : ℕ) (sums out : List ℕ) : Type 0 where
  pub takes : served width ≡ true
  pub here : first < channels
  pub held : channels ≤ 64
  pub long : 64 ≤ length sums
  pub words : length raw % width ≡ 0
  pub same : length out ≡ length raw

pub record RanInto (raw : List ℕ) (first channels width : ℕ) (le out_le : Bool) (start after new : List ℕ) : Type 0 where
  pub sums : after ≡ sums_after first channels width (word_of width le raw) start (length raw / width)
  pub wrote : new ≡ table (length raw) (resumed_at raw first channels width le out_le start)

-- the bytes of n, the first of them of channel `first`, that stand before a pixel's start
abbrev pub leading : ℕ → ℕ → ℕ → ℕ → ℕ
leading n first channels width = let left = (channels - first) * width in pick (first == 0) 0 (pick (nat_lt n left) n left)

-- whole pixels
pub record PixelsFit (raw : List ℕ) (channels width : ℕ) (sums out : List ℕ) : Type 0 where
  pub run : RunFits raw 0 channels width sums out
  pub pixels : length raw % (channels * width) ≡ 0

-- the last pixel of a row's bytes is read back into the sums
pub record LastFits (out : List ℕ) (at channels width : ℕ) (sums : List ℕ) : Type 0 where
  pub takes : served width ≡ true
  pub inside : at + channels * width ≤ length out
  pub held : channels ≤ 64
  pub long : 64 ≤ length sums

abbrev pub Held : List ℕ → ℕ → ℕ → ℕ → Bool → List ℕ → List ℕ → Type 0
Held out at channels width out_le old new = new ≡ filled channels (λ j. word_at out (at + j * width) width out_le) old
