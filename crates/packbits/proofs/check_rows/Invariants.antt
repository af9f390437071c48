-- `packbits::check_rows` meets its promise: the first row that has a fault decides, then what is left over. Assumes nothing.
use Rattle.packbits.proofs.Packets.{RowsLooked}
use Rattle.packbits.proofs.check_rows.Given as goal

abbrev pub invariant-loop-k : goal.invariant-loop-k
invariant-loop-k l = RowsLooked l.packed l._k-end l.row_bytes l.at l._k
