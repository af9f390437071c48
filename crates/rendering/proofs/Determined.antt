-- The promise of this crate allows one outcome. Assumes nothing.
use mathlib.Core.Path.{◌≡◌}
use mathlib.Core.List.{List}
use Prim.Native.Nat.{ℕ}
use Rattle.answer.proofs.Promised.{answer_determined}
use Rattle.answer.specs.Outcome.{Done}
use Rattle.layout.specs.declared.RasterLayout.{RasterLayout}
use Rattle.pixels.specs.Render.{Rendered}

pub render_determined : (l : RasterLayout) (file raw old : List ℕ) (a b : Done) (x y : List ℕ) → Rendered l file raw old a x → Rendered l file raw old b y → (a ≡ b) × (x ≡ y)
render_determined l file raw old a b x y = answer_determined a b x y
