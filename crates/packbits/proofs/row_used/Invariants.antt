-- `packbits::row_used` meets its promise: the first packet that has a fault decides. Assumes nothing.
use Prim.Native.Nat.{◌-◌}
use lib.ListN.{length}
use Rattle.packbits.proofs.Packets.{Looked}
use Rattle.packbits.proofs.row_used.Given as goal

abbrev pub invariant-loop-left : goal.invariant-loop-left
invariant-loop-left l = Looked l.packed l.row_bytes l.at l.left

abbrev pub decreases-loop-left : goal.decreases-loop-left
decreases-loop-left l = length l.packed - l.at
