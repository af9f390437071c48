-- What this crate's functions promise (rules 2.3 to 2.7): the order of refusals, and the word that is there.
-- Each answer's definition gives rule 1.1's number and the values of its cases. Assumes nothing.
use Rattle.std.specs.Prelude.{ℕ, ◌+◌, ◌*◌, ◌≡◌, Bool, false, not, ◌||◌, List, [], ◌∷◌, length, get_or, eqb, ltb}
use Rattle.answer.specs.Outcome.{Fault, unless, unsupported, truncated, pick, outcome, place_outcome, Answer}
use Rattle.answer.specs.declared.ByteAt.{ByteAt}
use Rattle.words.specs.Digits.{value}
use Rattle.words.specs.Word.{word_at}

abbrev pub among : ℕ → List ℕ → Bool
among n [] = false
among n (x ∷ xs) = eqb n x || among n xs

-- the widths of which words are read
unfoldable pub served : ℕ → Bool
served width = among width (1 ∷ 2 ∷ 3 ∷ 4 ∷ 8 ∷ [])

-- the word of a list of bytes, the least significant first
abbrev pub Joined : List ℕ → ℕ → Type 0
Joined bytes r = r ≡ value 256 (length bytes) (λ p. get_or bytes p 0)

-- where sample i begins: i × width, if all of it is within the length
abbrev pub place_faults : ℕ → ℕ → ℕ → List Fault
place_faults i width bytes = unsupported (eqb width 0) ∷ truncated (ltb bytes ((i + 1) * width)) ∷ []

abbrev pub Placed : ℕ → ℕ → ℕ → Answer ByteAt → Type 0
Placed i width bytes answer = place_outcome answer ≡ unless (place_faults i width bytes) (i * width)

-- the word of `width` bytes at a place
abbrev pub read_faults : List ℕ → ℕ → ℕ → List Fault
read_faults s at width = unsupported (not (served width)) ∷ truncated (ltb (length s) (at + width)) ∷ []

abbrev pub ReadWord : List ℕ → ℕ → ℕ → Bool → Answer ℕ → Type 0
ReadWord s at width le answer = outcome answer ≡ unless (read_faults s at width) (word_at s at width le)

-- sample i of two bytes if wide, of one otherwise
abbrev pub load_width : Bool → ℕ
load_width wide = pick wide 2 1

abbrev pub load_faults : List ℕ → ℕ → Bool → List Fault
load_faults s i wide = truncated (ltb (length s) ((i + 1) * load_width wide)) ∷ []

abbrev pub LoadedWord : List ℕ → ℕ → Bool → Bool → Answer ℕ → Type 0
LoadedWord s i wide le answer =
    outcome answer ≡ unless (load_faults s i wide) (word_at s (i * load_width wide) (load_width wide) le)
