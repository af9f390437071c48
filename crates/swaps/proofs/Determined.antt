-- The promise of this crate allows one outcome. Assumes nothing.
use mathlib.Core.Path.{◌≡◌}
use mathlib.Core.List.{List}
use Prim.Native.Nat.{ℕ}
use Rattle.answer.proofs.Promised.{answer_determined}
use Rattle.answer.specs.Outcome.{Done}
use Rattle.swaps.specs.Swapped.{Swapped}

pub swap_components_determined : (raw : List ℕ) (width : ℕ) (old : List ℕ) (a b : Done) (x y : List ℕ) → Swapped raw width old a x → Swapped raw width old b y → (a ≡ b) × (x ≡ y)
swap_components_determined raw width old = answer_determined
