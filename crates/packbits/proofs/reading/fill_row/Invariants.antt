-- `packbits::reading::fill_row` meets its contract: each packet goes where the one before it ended. Assumes nothing.
use Prim.Native.Nat.{◌-◌}
use lib.ListN.{length}
use Rattle.packbits.proofs.Packets.{Filling}
use Rattle.packbits.proofs.reading.fill_row.Given as goal

abbrev pub invariant-loop-from : goal.invariant-loop-from
invariant-loop-from l = Filling l.packed l.initial.row l.at l.from l.row

abbrev pub decreases-loop-from : goal.decreases-loop-from
decreases-loop-from l = length l.packed - l.at
