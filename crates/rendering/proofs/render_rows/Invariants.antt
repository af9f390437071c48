-- `rendering::render_rows` meets its contract: the invariant and its laws are in proofs/Picture.antt. Assumes nothing.
use Prim.Native.Nat.{◌*◌}
use mathlib.Core.Path.{◌≡◌}
use Rattle.pixels.specs.Render.{row_bytes}
use Rattle.rendering.proofs.Picture.{RenderedRows}
use Rattle.rendering.proofs.render_rows.Given as goal

abbrev pub invariant-loop-y : goal.invariant-loop-y
invariant-loop-y l = (l.at ≡ l.y * row_bytes l.l) × RenderedRows l.l l.file l.raw l.initial.out l.y l.out
