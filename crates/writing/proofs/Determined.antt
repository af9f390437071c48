-- The promise of this crate allows one outcome. Assumes nothing.
use mathlib.Core.Path.{◌≡◌}
use mathlib.Core.List.{List}
use Prim.Native.Nat.{ℕ}
use Rattle.answer.proofs.Promised.{answer_determined}
use Rattle.answer.specs.Outcome.{Done}
use Rattle.layout.specs.declared.RasterLayout.{RasterLayout}
use Rattle.pixels.specs.Planes.{Written}

pub write_planes_determined : (l : RasterLayout) (picture old : List ℕ) (a b : Done) (x y : List ℕ) → Written l picture old a x → Written l picture old b y → (a ≡ b) × (x ≡ y)
write_planes_determined l picture old a b x y = answer_determined a b x y
