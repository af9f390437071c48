-- `damage::mark_rows` meets its contract: the invariant and its laws are in proofs/MarkedRows.antt. Assumes nothing.
use Prim.Native.Nat.{◌-◌}
use lib.ListN.{length}
use Rattle.damage.proofs.MarkedRows.{MarkedRows}
use Rattle.damage.proofs.mark_rows.Given as goal

abbrev pub invariant-loop-at : goal.invariant-loop-at
invariant-loop-at l = MarkedRows l.damage l.strip l.initial.marks l.count l.at l.n l.marks

abbrev pub decreases-loop-at : goal.decreases-loop-at
decreases-loop-at l = length l.damage - l.at
