-- `packets::check::tail_right` meets its contract: the answer so far is the test of the bytes so far. Assumes nothing.
use mathlib.Core.Path.{◌≡◌}
use Prim.Native.Nat.{◌≤◌}
use Rattle.laws.specs.Turns.{every}
use Rattle.packets.specs.State.{tail_right}
use Rattle.packets.proofs.check.tail_right.Given as goal

abbrev pub invariant-loop-i : goal.invariant-loop-i
invariant-loop-i l = (l.i ≤ 8) × (l.right ≡ every l.i (tail_right l.tail l.begun))
