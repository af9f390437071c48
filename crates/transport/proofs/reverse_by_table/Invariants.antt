-- `transport::reverse_by_table` meets its contract: a byte's entry is the byte reversed. Assumes nothing.
use Rattle.laws.proofs.Lists.{Changed}
use Rattle.transport.specs.Moved.{reversed}
use Rattle.transport.proofs.reverse_by_table.Given as goal

abbrev pub invariant-loop-byte : goal.invariant-loop-byte
invariant-loop-byte l = Changed reversed l.initial.s l.byte-index l.s
