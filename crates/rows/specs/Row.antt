-- What is promised of a strip's rows and of one row: conversion, and with `forward` forward prediction. A row is a strip of one row, so
-- the definitions are the strip's own (rule 3.10). Assumes nothing.
use Rattle.std.specs.Prelude.{◌≡◌, ℕ, ◌*◌, ◌%◌, ◌<◌, ◌≤◌, Bool, true, List, [], ◌∷◌, ◌++◌, length, take, nat_lt, slice_index}
use Rattle.answer.specs.Outcome.{unless, output_too_small, pick, Promise, Sound, outcome, Done}
use Rattle.answer.specs.Table.{table, filled}
use Rattle.samples.specs.Sample.{word_of, strip, Good, sample, difference, stored_at}
use Rattle.samples.specs.declared.Strip.{Strip}
use Rattle.words.specs.Word.{plus}
use Rattle.words.specs.Promises.{served}
use Rattle.samples.specs.Promises.{strip_faults, convert_faults}

-- a row as a strip
abbrev pub one_row : List ℕ → ℕ → ℕ → Strip
one_row raw channels width = strip (length raw) channels width

-- the words that are written: a strip's samples, or the strip predicted
abbrev pub meant : Bool → Strip → Bool → Bool → List ℕ → ℕ → ℕ
meant forward g predict le raw = pick forward (difference g predict le raw) (sample g predict le raw)

abbrev pub Transformed : List ℕ → Strip → Bool → Bool → Bool → Bool → List ℕ → Done → List ℕ → Type 0
Transformed raw g predict le out_le forward old answer new =
    Promise (unless (convert_faults raw g old) tt) (table (length raw) (stored_at g.width out_le (meant forward g predict le raw))) old (outcome answer) new

abbrev pub TransformedInto : List ℕ → Strip → Bool → Bool → Bool → Bool → List ℕ → List ℕ → Type 0
TransformedInto raw g predict le out_le forward old new = new ≡ filled (length raw) (stored_at g.width out_le (meant forward g predict le raw)) old

abbrev pub RowTransformed : List ℕ → ℕ → ℕ → Bool → Bool → Bool → Bool → List ℕ → Done → List ℕ → Type 0
RowTransformed raw channels width = Transformed raw (one_row raw channels width)

-- the strip's faults, then that of the room
abbrev pub RoomChecked : ℕ → Strip → ℕ → Done → Type 0
RoomChecked bytes g room answer = outcome answer ≡ unless (strip_faults bytes g ++ (output_too_small (nat_lt room bytes) ∷ [])) tt

-- what the loop over a strip's rows needs: a strip without a fault, and room
pub record StripServed (raw : List ℕ) (g : Strip) (out : List ℕ) : Type 0 where
  pub sound : Sound (strip_faults (length raw) g)
  pub room : length raw ≤ length out

-- what the private loops need of a row, and what they do
pub record RowFits (raw : List ℕ) (channels width : ℕ) (out : List ℕ) : Type 0 where
  pub channel : 0 < channels
  pub wide : 0 < width
  pub groups : length raw % (channels * width) ≡ 0
  pub room : length raw ≤ length out

-- the bytes that are written of a row with prediction
abbrev pub meant_at : List ℕ → ℕ → ℕ → Bool → Bool → Bool → ℕ → ℕ
meant_at raw channels width le out_le forward = stored_at width out_le (meant forward (one_row raw channels width) true le raw)

-- sample n of a strip each of whose rows is taken up in its middle: that of the bytes from there on alone, and the sum so far of its channel
abbrev pub resumed_in : Strip → List ℕ → Bool → List ℕ → ℕ → ℕ
resumed_in g raw le start n = plus g.width (sample g true le raw n) (slice_index start (n % g.channels))

abbrev pub ResumedRows : List ℕ → Strip → Bool → Bool → List ℕ → List ℕ → List ℕ → Type 0
ResumedRows raw g le out_le start old new = new ≡ filled (length raw) (stored_at g.width out_le (resumed_in g raw le start)) old

-- of one row
abbrev pub resumed : List ℕ → ℕ → ℕ → Bool → List ℕ → ℕ → ℕ
resumed raw channels width = resumed_in (one_row raw channels width) raw

abbrev pub ResumedInto : List ℕ → ℕ → ℕ → Bool → Bool → List ℕ → List ℕ → List ℕ → Type 0
ResumedInto raw channels width = ResumedRows raw (one_row raw channels width)

-- a row whose first `channels` words are written already
pub record Led (f : ℕ → ℕ) (raw : List ℕ) (channels width : ℕ) (out : List ℕ) : Type 0 where
  pub fits : RowFits raw channels width out
  pub step : channels * width ≤ length raw
  pub front : take (channels * width) out ≡ table (channels * width) f

-- a row whose channels start from sums that are lent
pub record HeldFits (raw : List ℕ) (channels width : ℕ) (start out : List ℕ) : Type 0 where
  pub takes : served width ≡ true
  pub fits : RowFits raw channels width out
  pub held : channels ≤ length start

-- and that has at most four of them
pub record FewFit (raw : List ℕ) (channels width : ℕ) (start out : List ℕ) : Type 0 where
  pub row : HeldFits raw channels width start out
  pub few : channels ≤ 4
  pub four : 4 ≤ length start

-- rows of a strip that has at most four channels
pub record FewRows (raw : List ℕ) (g : Strip) (start out : List ℕ) : Type 0 where
  pub takes : served g.width ≡ true
  pub good : Good (length raw) g
  pub few : g.channels ≤ 4
  pub four : 4 ≤ length start
  pub room : length raw ≤ length out

-- what is known of a row past every refusal
pub record RowServed (raw : List ℕ) (channels width : ℕ) (out : List ℕ) : Type 0 where
  pub takes : served width ≡ true
  pub fits : RowFits raw channels width out
  pub step : channels * width ≤ length raw

-- the first `step` bytes, which hold whole words, in the asked order
pub record LeadFits (raw : List ℕ) (step width : ℕ) (out : List ℕ) : Type 0 where
  pub takes : served width ≡ true
  pub words : step % width ≡ 0
  pub within : step ≤ length raw
  pub room : step ≤ length out

abbrev pub LedInto : List ℕ → ℕ → ℕ → Bool → Bool → List ℕ → List ℕ → Type 0
LedInto raw step width le out_le old new = new ≡ filled step (stored_at width out_le (word_of width le raw)) old
