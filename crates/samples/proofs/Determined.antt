-- Each promise of this crate allows one outcome. Assumes nothing.
use mathlib.Core.Path.{◌≡◌, sym, ◌∙◌}
use mathlib.Core.Bool.{Bool}
use mathlib.Core.List.{List}
use Prim.Native.Nat.{ℕ}
use Rattle.answer.proofs.Promised.{answer_once, answer_determined}
use Rattle.answer.specs.Outcome.{Done}
use Rattle.samples.specs.declared.Strip.{Strip}
use Rattle.samples.specs.Promises.{StripChecked, Reordered}

pub check_strip_determined : (bytes : ℕ) (g : Strip) (a b : Done) → StripChecked bytes g a → StripChecked bytes g b → a ≡ b
check_strip_determined bytes g a b p q = answer_once a b (p ∙ sym q)

pub reorder_determined : (raw : List ℕ) (width : ℕ) (le out_le : Bool) (old : List ℕ) (a b : Done) (x y : List ℕ) → Reordered raw width le out_le old a x → Reordered raw width le out_le old b y → (a ≡ b) × (x ≡ y)
reorder_determined raw width le out_le old = answer_determined
