-- Samples of a strip (rules 3.1 to 3.5): a sample is its input word, plus the sample `channels` before it in its row when
-- prediction is on, modulo 256^width; forward prediction takes that one's word away. Assumes nothing.
use Rattle.std.specs.Prelude.{ℕ, zero, suc, ◌-◌, ◌*◌, ◌/◌, ◌%◌, ◌<◌, ◌≡◌, Bool, not, ◌||◌, List, ltb}
use Rattle.answer.specs.Outcome.{pick}
use Rattle.words.specs.Digits.{digit}
use Rattle.words.specs.Word.{ordered, word_at, modulus, plus, minus}
-- a strip's geometry is the code's own: bytes of a row, channels, and bytes of a word
use Rattle.samples.specs.declared.Strip.{Strip}

abbrev pub strip : ℕ → ℕ → ℕ → Strip
strip row channels width = record { row = row; channels = channels; width = width }

-- sample n takes nothing from an earlier one: prediction is off, or it is one of its row's first `channels`
abbrev pub alone : Strip → Bool → ℕ → Bool
alone g predict n = not predict || ltb (n % (g.row / g.width)) g.channels

-- sample n of a strip whose input words are w, with a bound on how many earlier samples it goes back; n of them are always enough
abbrev pub summed : Strip → Bool → (ℕ → ℕ) → ℕ → ℕ → ℕ
summed g predict w zero n = w n % modulus g.width
summed g predict w (suc more) n =
    pick (alone g predict n) (w n % modulus g.width) (plus g.width (w n) (summed g predict w more (n - g.channels)))

-- word n of a list of bytes
abbrev pub word_of : ℕ → Bool → List ℕ → ℕ → ℕ
word_of width le raw n = word_at raw (n * width) width le

unfoldable pub sample : Strip → Bool → Bool → List ℕ → ℕ → ℕ
sample g predict le raw n = summed g predict (word_of g.width le raw) n n

-- word n of what forward prediction writes
unfoldable pub difference : Strip → Bool → Bool → List ℕ → ℕ → ℕ
difference g predict le raw n =
    pick (alone g predict n) (word_of g.width le raw n % modulus g.width) (minus g.width (word_of g.width le raw n) (word_of g.width le raw (n - g.channels)))

-- byte k of the words v, stored in a byte order: of word k / width the digit that stands at byte k mod width
abbrev pub stored_at : ℕ → Bool → (ℕ → ℕ) → ℕ → ℕ
stored_at width le v k = digit 256 (ordered le width (k % width)) (v (k / width))

-- what the strip check has shown of a strip of so many bytes
pub record Good (bytes : ℕ) (g : Strip) : Type 0 where
  pub channel : 0 < g.channels
  pub wide : 0 < g.width
  pub long : 0 < g.row
  pub rows : g.row % (g.channels * g.width) ≡ 0
  pub whole : bytes % g.row ≡ 0
