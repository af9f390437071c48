-- `writing::one_plane::write_rows` meets its contract: the invariant and its laws are in proofs/Rowwise.antt. Assumes nothing.
use Prim.Native.Nat.{◌*◌}
use mathlib.Core.Path.{◌≡◌}
use Rattle.pixels.specs.Render.{row_bytes, plane_row}
use Rattle.writing.proofs.Rowwise.{WrittenRows}
use Rattle.writing.proofs.one_plane.write_rows.Given as goal

abbrev pub invariant-loop-y : goal.invariant-loop-y
invariant-loop-y l = (l.from ≡ l.y * row_bytes l.l) × (l.at ≡ l.y * plane_row l.l) × WrittenRows l.l l.picture l.initial.planes l.y l.planes
