-- `transport::reverse_by_bits` meets its contract: the bytes so far are reversed, the rest as they were. Assumes nothing.
use borrow.Author.Rules.{rules}
use Rattle.laws.proofs.Lists.{changed_next}
use Rattle.transport.specs.Moved.{reversed}
use Rattle.transport.proofs.reverse_by_bits.Goals as goal

pub loop-byte-preserved : goal.loop-byte-preserved
loop-byte-preserved c =
    changed_next reversed c.loop-byte.invariant (search rules) c.reversed_byte.ensures
