-- Bytes stored backwards, over their number: as a word, and as some of them after the others. Assumes nothing.
use mathlib.Core.Path.{◌≡◌, ap, ◌∙◌}
use mathlib.Core.Bool.{true, false}
use mathlib.Core.List.{List}
use Prim.Native.Nat.{ℕ, ◌+◌, ◌-◌}
use native.Mathlib.Omega.{arith}
use lib.ListN.{get_or}
use Rattle.answer.specs.Table.{stores}
use Rattle.answer.proofs.Filling.{stores_same, stores-on}
use Rattle.words.specs.Word.{ordered, Bytes, word_at, PutHalves, backwards}
use Rattle.words.proofs.Words.{ordered_below, word-digit, backwards-digit}
use Rattle.words.proofs.Puts.{put_halves}
use Rattle.swaps.specs.Swapped.{Backwards, AsWord, Whole}

module _ {raw : List ℕ} {from : ℕ} {old : List ℕ} {at : ℕ} {new : List ℕ} (b : Bytes raw) where
  -- a word's bytes, stored from the word backwards
  pub as_word : (n : ℕ) → AsWord (Whole n) raw from n old at new → Backwards raw from n old at new
  as_word n is =
      let e : is.other ≡ backwards n (word_at raw from n true) = is.back ∙ ap (backwards n) is.read in
      is.stored
      ∙ stores_same old at n _ _ (λ p h. rw e (backwards-digit n (word_at raw from n true) p h ∙ word-digit raw from n true b (ordered false n p) (ordered_below false n p h)))

  pub as_halves : AsWord PutHalves raw from 8 old at new → Backwards raw from 8 old at new
  as_halves is = as_word 8 (record { word = is.word; read = is.read; other = is.other; back = is.back; stored = put_halves is.stored })

-- the last n bytes first, then the m before them
pub last_then_first : (raw : List ℕ) (from n m : ℕ) (old mid : List ℕ) (at : ℕ) (new : List ℕ) → Backwards raw (from + m) n old at mid → Backwards raw from m mid (at + n) new → Backwards raw from (n + m) old at new
last_then_first raw from n m old mid at new first then =
    let all : ℕ → ℕ = λ p. get_or raw (from + (n + m - 1 - p)) 0 in
    let begun : mid ≡ stores old at n all = first ∙ stores_same old at n _ all (λ p h. ap (λ (k : ℕ). get_or raw k 0) (omega arith)) in
    then ∙ ap (λ (l : List ℕ). stores l (at + n) m (λ p. get_or raw (from + (m - 1 - p)) 0)) begun ∙ stores-on old at n m all _ (λ p h. ap (λ (k : ℕ). get_or raw k 0) (omega arith))
