-- `packbits::writing::put_plan` meets its contract: each packet goes where the one before it ended. Assumes nothing.
use Rattle.packbits.proofs.Putting.{putting_on}
use Rattle.packbits.proofs.writing.put_plan.Goals as goal

pub loop-k-preserved : goal.loop-k-preserved
loop-k-preserved c =
    rw c.packet_length-to.ensures (putting_on c.requires.paired c.loop-k.invariant c.loop-k-test.true c.put_planned.ensures)
