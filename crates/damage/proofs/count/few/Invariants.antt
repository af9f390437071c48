-- `damage::count::few` meets its contract: the sum so far is the count of the marks passed, and so fits a byte. Assumes nothing.
use Prim.Native.Nat.{◌≤◌}
use mathlib.Core.Path.{◌≡◌}
use lib.ListN.{length}
use Rattle.damage.specs.Marks.{damaged, counted}
use Rattle.damage.proofs.count.few.Given as goal

abbrev pub invariant-loop-mark : goal.invariant-loop-mark
invariant-loop-mark l = (l.mark-index ≤ length l.marks) × (l.sum ≡ counted l.mark-index (damaged l.marks))
