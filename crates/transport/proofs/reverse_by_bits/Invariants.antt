-- `transport::reverse_by_bits` meets its contract: the bytes so far are reversed, the rest as they were. Assumes nothing.
use Rattle.laws.proofs.Lists.{Changed}
use Rattle.transport.specs.Moved.{reversed}
use Rattle.transport.proofs.reverse_by_bits.Given as goal

abbrev pub invariant-loop-byte : goal.invariant-loop-byte
invariant-loop-byte l = Changed reversed l.initial.s l.byte-index l.s
