-- Each promise of this crate allows one outcome. Assumes nothing.
use mathlib.Core.Path.{◌≡◌, sym, ◌∙◌}
use mathlib.Core.Bool.{Bool}
use mathlib.Core.List.{List}
use Prim.Native.Nat.{ℕ}
use Rattle.answer.proofs.Promised.{answer_determined}
use Rattle.answer.specs.Outcome.{Done}
use Rattle.pixels.specs.Render.{flipped, high_byte, Turned}
use Rattle.pixels.specs.Finish.{Inverted, Straightened}

pub flip_determined : (white : Bool) (v a b : ℕ) → a ≡ flipped white v → b ≡ flipped white v → a ≡ b
flip_determined white v a b p q = p ∙ sym q

pub high_determined : (le : Bool) (a b : ℕ) → a ≡ high_byte le → b ≡ high_byte le → a ≡ b
high_determined le a b p q = p ∙ sym q

pub word_determined : (bytes : ℕ) (stored : List ℕ) (le : Bool) (a b : List ℕ) → Turned bytes stored le a → Turned bytes stored le b → a ≡ b
word_determined bytes stored le a b p q = p ∙ sym q

pub invert_determined : (old x y : List ℕ) → Inverted old x → Inverted old y → x ≡ y
invert_determined old x y p q = p ∙ sym q

pub straighten_row_determined : (old : List ℕ) (channels : ℕ) (multiplied white : Bool) (a b : Done) (x y : List ℕ) → Straightened old channels multiplied white a x → Straightened old channels multiplied white b y → (a ≡ b) × (x ≡ y)
straighten_row_determined old channels multiplied white a b x y = answer_determined a b x y
