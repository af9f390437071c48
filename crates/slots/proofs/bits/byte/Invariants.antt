-- `slots::bits::byte` meets its contract: the columns so far are the digits of a number, the last the lowest. Assumes nothing.
use Rattle.slots.proofs.Packing.{Packed}
use Rattle.slots.proofs.bits.byte.Given as goal

abbrev pub invariant-loop-v : goal.invariant-loop-v
invariant-loop-v l = Packed l.white l.columns l.v-index l.byte
