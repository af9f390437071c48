-- `packets::check::sums_small` meets its contract: the answer so far is the test of the sums so far. Assumes nothing.
use mathlib.Core.Path.{◌≡◌}
use Rattle.words.specs.Word.{modulus}
use Prim.Native.Nat.{◌+◌, ◌≤◌}
use Rattle.laws.specs.Turns.{every}
use Rattle.packets.specs.State.{sum_right}
use Rattle.packets.proofs.check.sums_small.Given as goal

abbrev pub invariant-loop-sum : goal.invariant-loop-sum
invariant-loop-sum l = (l.sum-index ≤ l.begun) × ((l.most + 1 ≡ modulus l.width) × (l.right ≡ every l.sum-index (sum_right l.sums l.width l.begun)))
