-- Each promise of this crate allows one outcome. Assumes nothing.
use mathlib.Core.Path.{◌≡◌, sym, ◌∙◌}
use mathlib.Core.List.{List}
use Prim.Native.Nat.{ℕ}
use Rattle.answer.proofs.Promised.{answer_determined}
use Rattle.answer.specs.Outcome.{Done}
use Rattle.transport.specs.Moved.{Committed, Reversed}

pub commit_uninit_determined : (source old : List ℕ) (a b : Done) (x y : List ℕ) → Committed source old a x → Committed source old b y → (a ≡ b) × (x ≡ y)
commit_uninit_determined source old = answer_determined

pub reverse_bits_determined : (old x y : List ℕ) → Reversed old x → Reversed old y → x ≡ y
reverse_bits_determined old x y p q = p ∙ sym q
