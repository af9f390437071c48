-- `packbits::writing::put_literals` meets its contract: each literal goes where the one before it ended. Assumes nothing.
use Rattle.packbits.proofs.Putting.{literal-fits, plain-on}
use Rattle.packbits.proofs.writing.put_literals.Goals as goal

pub put_literal-requires : goal.put_literal-requires
put_literal-requires c =
    rw c.next_literal-n.ensures (literal-fits c.loop-at.invariant c.loop-at-test.true)

pub loop-at-preserved : goal.loop-at-preserved
loop-at-preserved c =
    rw c.next_literal-n.ensures (plain-on c.loop-at.invariant c.loop-at-test.true (rw c.next_literal-n.ensures at c.put_literal.ensures))
