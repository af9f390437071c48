-- What the private functions need and do: where a row's damage begins; its marks filled in from there, or found from its own bytes, carried
-- onward along the row, and counted. Assumes nothing.
use Rattle.std.specs.Prelude.{ℕ, ◌+◌, ◌-◌, ◌*◌, ◌%◌, ◌≤◌, ◌<◌, ◌≡◌, Bool, true, not, List, length, get_or, ltb}
use Rattle.answer.specs.Outcome.{Sound, pick}
use Rattle.answer.specs.Table.{table}
use Rattle.words.specs.Promises.{served}
use Rattle.samples.specs.Sample.{strip}
use Rattle.samples.specs.declared.Strip.{Strip}
use Rattle.samples.specs.Promises.{strip_faults}
use Rattle.damage.specs.Marks.{struck, marked, mark_byte, counted}

abbrev pub larger : ℕ → ℕ → ℕ
larger a b = pick (ltb a b) b a

-- marks: each 0 or 1
abbrev pub Bits : List ℕ → Type 0
Bits marks = (k : ℕ) → get_or marks k 0 ≤ 1

-- where a block of at most `most` bytes ends
pub record BlockEnd (at all most end : ℕ) : Type 0 where
  pub on : at < end
  pub inside : end ≤ all
  pub short : end ≤ at + most

-- the bytes before a place are sound
abbrev pub SoundTo : List ℕ → ℕ → Type 0
SoundTo damage at = (k : ℕ) → k < at → get_or damage k 0 ≡ 0

-- the first byte that is damaged, or the end
pub record FirstDamaged (damage : List ℕ) (at : ℕ) : Type 0 where
  pub inside : at ≤ length damage
  pub sound : SoundTo damage at
  pub hurt : at < length damage → get_or damage at 0 ≡ 0 → ⊥

-- whole words of a width that is served
pub record Words (damage : List ℕ) (width : ℕ) : Type 0 where
  pub takes : served width ≡ true
  pub whole : length damage % width ≡ 0

-- the samples from one on, one of each channel as far as there are any, are damaged
abbrev pub PixelStruck : List ℕ → ℕ → ℕ → ℕ → Type 0
PixelStruck damage channels width from = (n : ℕ) → from ≤ n → n < from + channels → n * width < length damage → struck width damage n ≡ true

-- a mark for each sample
abbrev pub OneEach : List ℕ → ℕ → List ℕ → Type 0
OneEach damage width marks = length damage ≡ length marks * width

abbrev pub OwnInto : List ℕ → ℕ → List ℕ → List ℕ → Type 0
OwnInto damage width old new = new ≡ table (length old) (λ n. mark_byte (struck width damage n))

-- marks carried onward along a row: they are themselves damage, of samples of one byte
abbrev pub OnwardInto : ℕ → List ℕ → List ℕ → Type 0
OnwardInto channels old new = new ≡ table (length old) (λ n. mark_byte (marked (strip (length old) channels 1) true old n))

-- n is a place or comes after it
abbrev pub since : ℕ → ℕ → Bool
since from n = not (ltb n from)

pub record MarkedFrom (from : ℕ) (old : List ℕ) (count : ℕ) (new : List ℕ) : Type 0 where
  pub marks : new ≡ table (length old) (λ n. mark_byte (since from n))
  pub count-is : count ≡ length old - from

pub record MarksFit (damage : List ℕ) (channels width : ℕ) (marks : List ℕ) : Type 0 where
  pub takes : served width ≡ true
  pub channel : 0 < channels
  pub each : OneEach damage width marks

pub record StripMarksFit (damage : List ℕ) (g : Strip) (marks : List ℕ) : Type 0 where
  pub sound : Sound (strip_faults (length damage) g)
  pub each : OneEach damage g.width marks

pub record MarkedInto (damage : List ℕ) (g : Strip) (predict : Bool) (old : List ℕ) (count : ℕ) (new : List ℕ) : Type 0 where
  pub marks : new ≡ table (length old) (λ n. mark_byte (marked g predict damage n))
  pub count-is : count ≡ counted (length old) (marked g predict damage)

-- a predicted row is a strip of one row
abbrev pub RowMarked : List ℕ → ℕ → ℕ → List ℕ → ℕ → List ℕ → Type 0
RowMarked damage channels width old count new = MarkedInto damage (strip (length damage) channels width) true old count new
