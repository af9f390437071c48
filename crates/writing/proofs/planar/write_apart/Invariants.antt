-- `writing::planar::write_apart` meets its contract: the invariant and its laws are in proofs/Planewise.antt. Assumes nothing.
use Prim.Native.Nat.{◌*◌}
use mathlib.Core.Path.{◌≡◌}
use Rattle.writing.proofs.Planewise.{Planewise}
use Rattle.writing.proofs.planar.write_apart.Given as goal

abbrev pub invariant-loop-c : goal.invariant-loop-c
invariant-loop-c l = (l.start ≡ l.c * l.l.plane_len) × Planewise l.l l.picture l.initial.planes l.c l.planes
