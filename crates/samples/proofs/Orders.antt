-- Words stored in the order that they were read in are the bytes as they are; in the other order, each word's bytes backwards. Assumes nothing.
use mathlib.Core.Path.{◌≡◌, ap, ◌∙◌}
use mathlib.Core.Bool.{Bool, true, false}
use mathlib.Core.List.{List}
use Prim.Native.Nat.{ℕ, ◌-◌, ◌*◌, ◌/◌, ◌%◌, ◌<◌}
use native.Mathlib.Nat.{mod-lt, div-add-mod'}
use native.Mathlib.Omega.{arith}
use lib.ListN.{get_or}
use Rattle.answer.specs.Outcome.{xor}
use Rattle.words.specs.Digits.{digit}
use Rattle.words.specs.Word.{ordered, Bytes, word_at}
use Rattle.words.proofs.Words.{word-digit}
use Rattle.swaps.specs.Swapped.{swapped_at}
use Rattle.samples.specs.Sample.{word_of, stored_at}

module _ (raw : List ℕ) (b : Bytes raw) (width : ℕ) (some : 0 < width) (k : ℕ) where
  own : (le : Bool) → stored_at width le (word_of width le raw) k ≡ get_or raw k 0
  own le = word-digit raw (k / width * width) width le b (k % width) (mod-lt k some) ∙ ap (λ (j : ℕ). get_or raw j 0) (div-add-mod' k width)

  pub same_order : (le out_le : Bool) → xor le out_le ≡ false → stored_at width out_le (word_of width le raw) k ≡ get_or raw k 0
  same_order true true e = own true
  same_order true false e = absurd (let z : ◌≡◌ {A = ℕ} 0 1 = cc in omega arith)
  same_order false true e = absurd (let z : ◌≡◌ {A = ℕ} 0 1 = cc in omega arith)
  same_order false false e = own false

  -- the digit that faces byte k mod width
  faced : (le : Bool) → digit 256 (ordered le width (width - 1 - k % width)) (word_at raw (k / width * width) width le) ≡ swapped_at raw width k
  faced le =
      let less = mod-lt k some in
      word-digit raw (k / width * width) width le b (width - 1 - k % width) (omega arith) ∙ ap (λ (j : ℕ). get_or raw j 0) (omega (arith, div-add-mod' k width))

  pub other_order : (le out_le : Bool) → xor le out_le ≡ true → stored_at width out_le (word_of width le raw) k ≡ swapped_at raw width k
  other_order true true e = absurd (let z : ◌≡◌ {A = ℕ} 0 1 = cc in omega arith)
  other_order true false e = faced true
  other_order false true e =
      let less = mod-lt k some in
      let twice : width - 1 - (width - 1 - k % width) ≡ k % width = omega arith in
      rw twice at (faced false)
  other_order false false e = absurd (let z : ◌≡◌ {A = ℕ} 0 1 = cc in omega arith)
