-- `packet_numbers::all_unused` meets its contract: the answer so far is the test of the numbers so far. Assumes nothing.
use mathlib.Core.Path.{◌≡◌}
use Prim.Native.Nat.{◌≤◌}
use Rattle.laws.specs.Turns.{every}
use Rattle.packet_numbers.specs.Numbers.{unused}
use Rattle.packet_numbers.proofs.all_unused.Given as goal

abbrev pub invariant-loop-i : goal.invariant-loop-i
invariant-loop-i l = (l.i ≤ 8) × (l.none ≡ every l.i (unused l.s))
