-- Words of one or two bytes in the other byte order: the bytes of each change places, as the layout turns them. Assumes nothing.
use Prim.Native.Nat.{ℕ, ◌+◌, ◌-◌, ◌*◌, ◌%◌, ◌≤◌, ◌<◌}
use mathlib.Core.Path.{◌≡◌, refl, sym, ap, ◌∙◌}
use mathlib.Core.Bool.{Bool, true, false, ◌&&◌}
use mathlib.Core.List.{List}
use mathlib.Core.Logic.{◌⊎◌, inl, inr}
use native.Mathlib.Omega.{arith}
use borrow.Author.Tests.{eqb-false}
use lib.ListN.{get_or}
use lib.Dec.{eqb}
use Rattle.answer.specs.Outcome.{Sound, pick, xor}
use Rattle.words.specs.Word.{Bytes}
use Rattle.words.specs.Promises.{served}
use Rattle.swaps.specs.Swapped.{mirror}
use Rattle.samples.specs.Sample.{word_of, stored_at}
use Rattle.samples.proofs.Orders.{same_order, other_order}
use Rattle.layout.specs.declared.RasterLayout.{RasterLayout}
use Rattle.layout.specs.Layout.{record_faults, high_first}
use Rattle.layout.proofs.Whole.{record_accepted}
use Rattle.answer.proofs.Filling.{part, part_at, table_same}
use Rattle.pixels.specs.Render.{high_byte, OneOrTwo, Turned, WordAt}

-- a width that a record has, and that is not 8
pub one_or_two : (l : RasterLayout) → Sound (record_faults l) → eqb l.fields.bytes 8 ≡ false → OneOrTwo l.fields.bytes
one_or_two l s narrow = by (record_accepted l s).bytes
  where
    by : ((l.fields.bytes ≡ 1) ⊎ (l.fields.bytes ≡ 2)) ⊎ (l.fields.bytes ≡ 8) → OneOrTwo l.fields.bytes
    by (inl w) = w
    by (inr e) = absurd (eqb-false l.fields.bytes 8 narrow e)

pub some_bytes : {bytes : ℕ} → OneOrTwo bytes → 0 < bytes
some_bytes (inl e) = omega arith
some_bytes (inr e) = omega arith

pub one_byte : {bytes : ℕ} → OneOrTwo bytes → (bytes ≡ 2 → ⊥) → bytes ≡ 1
one_byte (inl e) n = e
one_byte (inr e) n = absurd (n e)

pub narrow-served : {bytes : ℕ} → OneOrTwo bytes → served bytes ≡ true
unfolding served
narrow-served (inl e) = rw e
narrow-served (inr e) = rw e

-- a word's more significant byte is its first or its second
pub high-few : (le : Bool) {n : ℕ} → n ≡ high_byte le → n ≤ 1
high-few true e = omega arith
high-few false e = omega arith

-- words stand apart from words
pub high_first_in : (bytes : ℕ) → OneOrTwo bytes → (le : Bool) (c b : ℕ) → high_first bytes le (c * bytes + b) ≡ c * bytes + high_first bytes le b
unfolding high_first
high_first_in bytes (inl e) le c b = rw e
high_first_in bytes (inr e) true c b = rw e (omega arith)
high_first_in bytes (inr e) false c b = rw e

-- a byte of a word is a byte of whatever the word is in
pub high_first_below : (bytes : ℕ) → OneOrTwo bytes → (le : Bool) (n j : ℕ) → n % bytes ≡ 0 → j < n → high_first bytes le j < n
unfolding high_first
high_first_below bytes (inl e) le n j whole h = rw e h
high_first_below bytes (inr e) true n j whole h = let even : n % 2 ≡ 0 = rw e at whole in rw e (omega arith)
high_first_below bytes (inr e) false n j whole h = rw e h

high_first-mirror : {bytes : ℕ} → OneOrTwo bytes → (k : ℕ) → mirror bytes k ≡ high_first bytes true k
unfolding high_first
high_first-mirror (inl e) k = rw e (omega arith)
high_first-mirror (inr e) k = rw e (omega arith)

high_first-same : (bytes k : ℕ) → k ≡ high_first bytes false k
unfolding high_first
high_first-same bytes k = by (eqb bytes 2)
  where
    by : (b : Bool) → k ≡ pick (b && false) (k - k % 2 + 1 - k % 2) k
    by true = refl
    by false = refl

pub stored-high_first : (raw : List ℕ) → Bytes raw → {bytes : ℕ} → OneOrTwo bytes → (le out_le : Bool) (k : ℕ) → stored_at bytes out_le (word_of bytes le raw) k ≡ get_or raw (high_first bytes (xor le out_le) k) 0
stored-high_first raw b {bytes} width le out_le k = by (xor le out_le) refl
  where
    some : OneOrTwo bytes → 0 < bytes
    some (inl e) = omega arith
    some (inr e) = omega arith

    by : (d : Bool) → xor le out_le ≡ d → stored_at bytes out_le (word_of bytes le raw) k ≡ get_or raw (high_first bytes d k) 0
    by true e = other_order raw b bytes (some width) k le out_le e ∙ ap (λ (i : ℕ). get_or raw i 0) (high_first-mirror width k)
    by false e = same_order raw b bytes (some width) k le out_le e ∙ ap (λ (i : ℕ). get_or raw i 0) (high_first-same bytes k)

-- the bytes of one word, as they are taken
pub high_first-turned : {bytes : ℕ} → OneOrTwo bytes → (b : ℕ) → b < bytes → high_first bytes true b ≡ bytes - 1 - b
unfolding high_first
high_first-turned (inl e) b h = rw e (omega arith)
high_first-turned (inr e) b h = rw e (omega arith)

pub word_from : {bytes : ℕ} (le : Bool) {b from : ℕ} → OneOrTwo bytes → b < bytes → ((le ≡ true) × (from ≡ bytes - 1 - b)) ⊎ ((le ≡ false) × (from ≡ b)) → from ≡ high_first bytes le b
word_from {bytes} le {b} width h (inl w) = rw w.0 (w.1 ∙ sym (high_first-turned width b h))
word_from {bytes} le {b} width h (inr w) = rw w.0 (w.1 ∙ high_first-same bytes b)

-- a word that was read from a place, turned or not, is the word there
pub word_read : (s : List ℕ) (at bytes : ℕ) (le : Bool) (stored word : List ℕ) → OneOrTwo bytes → stored ≡ part at (at + bytes) s → Turned bytes stored le word → WordAt s at bytes le word
word_read s at bytes le stored word width is turned =
    turned
    ∙ table_same bytes _ _ (λ b h. ap (λ (l : List ℕ). get_or l (pick le (bytes - 1 - b) b) 0) is ∙ part_at at (at + bytes) s (pick le (bytes - 1 - b) b) (below le b h) ∙ ap (λ (n : ℕ). get_or s (at + n) 0) (first le b h))
  where
    first : (le : Bool) (b : ℕ) → b < bytes → pick le (bytes - 1 - b) b ≡ high_first bytes le b
    first true b h = word_from true width h (inl (refl, refl))
    first false b h = word_from false width h (inr (refl, refl))

    below : (le : Bool) (b : ℕ) → b < bytes → pick le (bytes - 1 - b) b < at + bytes - at
    below true b h = omega arith
    below false b h = omega arith
