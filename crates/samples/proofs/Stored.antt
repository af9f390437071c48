-- Words stored as bytes: the word that stands at n × width is word n, and the words of a list, stored in their own order, are the list.
-- Shown once over the width. Assumes nothing.
use mathlib.Core.Path.{◌≡◌, ap, ◌∙◌}
use mathlib.Core.Bool.{Bool}
use mathlib.Core.List.{List}
use Prim.Native.Nat.{ℕ, ◌+◌, ◌*◌, ◌/◌, ◌%◌, ◌≤◌, ◌<◌}
use native.Mathlib.Nat.{mod-lt, div-add-mod', mul-mod_left}
use native.Mathlib.Omega.{arith}
use lib.ListN.{length, get_or}
use lib.Arith.{digits_div, digits_mod}
use Rattle.answer.specs.Table.{table}
use Rattle.answer.proofs.Filling.{table_at, table_same, table_self}
use Rattle.words.specs.Digits.{digit}
use Rattle.words.specs.Word.{ordered, Bytes, word_at, modulus}
use Rattle.words.proofs.Words.{word-digit, digits_word}
use Rattle.laws.proofs.Groups.{group_room}
use Rattle.samples.specs.Sample.{stored_at}

-- byte p of word n
pub stored_byte : (width : ℕ) (le : Bool) (v : ℕ → ℕ) (n p : ℕ) → p < width → stored_at width le v (n * width + p) ≡ digit 256 (ordered le width p) (v n)
stored_byte width le v n p h = rw (digits_mod n h, digits_div n h)

pub stored-word : (bytes width : ℕ) (le : Bool) (v : ℕ → ℕ) (n : ℕ) → n * width + width ≤ bytes → word_at (table bytes (stored_at width le v)) (n * width) width le ≡ v n % modulus width
stored-word bytes width le v n room =
    digits_word (table bytes (stored_at width le v)) (n * width) width le (v n) (λ p h. table_at bytes (stored_at width le v) (n * width + p) (omega arith) ∙ stored_byte width le v n p h)

-- the word of byte k is all there
pub word_room : (bytes width k : ℕ) → bytes % width ≡ 0 → k < bytes → k / width * width + width ≤ bytes
word_room bytes width k whole h =
    group_room width bytes (k / width * width) whole (mul-mod_left (k / width) width) (omega (arith, div-add-mod' k width))

pub stored_self : (width : ℕ) (le : Bool) (s : List ℕ) → 0 < width → Bytes s → table (length s) (stored_at width le (λ n. word_at s (n * width) width le)) ≡ s
stored_self width le s some b =
    table_same (length s) _ _ (λ k h. word-digit s (k / width * width) width le b (k % width) (mod-lt k some) ∙ ap (λ (j : ℕ). get_or s j 0) (div-add-mod' k width))
    ∙ table_self s

-- words that agree, of which all is there, are stored alike
pub stored_same : (bytes width : ℕ) (le : Bool) (v w : ℕ → ℕ) → bytes % width ≡ 0 → ((n : ℕ) → n * width + width ≤ bytes → v n ≡ w n) → table bytes (stored_at width le v) ≡ table bytes (stored_at width le w)
stored_same bytes width le v w whole e =
    table_same bytes _ _ (λ k h. ap (digit 256 (ordered le width (k % width))) (e (k / width) (word_room bytes width k whole h)))
