-- Each promise of this crate allows one outcome. Assumes nothing.
use mathlib.Core.Path.{◌≡◌}
use mathlib.Core.Bool.{Bool}
use mathlib.Core.List.{List}
use Prim.Native.Nat.{ℕ}
use Rattle.answer.proofs.Promised.{answer_determined}
use Rattle.answer.specs.Outcome.{Done}
use Rattle.samples.specs.declared.Strip.{Strip}
use Rattle.samples.specs.Promises.{Converted, Forwarded}

module _ (raw : List ℕ) (g : Strip) (predict le out_le : Bool) (old : List ℕ) (a b : Done) (x y : List ℕ) where
  pub convert_determined : Converted raw g predict le out_le old a x → Converted raw g predict le out_le old b y → (a ≡ b) × (x ≡ y)
  convert_determined = answer_determined a b x y

  pub forward_determined : Forwarded raw g predict le out_le old a x → Forwarded raw g predict le out_le old b y → (a ≡ b) × (x ≡ y)
  forward_determined = answer_determined a b x y
