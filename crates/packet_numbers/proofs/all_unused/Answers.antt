-- `packet_numbers::all_unused` meets its contract: the answer so far is the test of the numbers so far. Assumes nothing.
use Rattle.packet_numbers.proofs.Standing.{unused-all}
use Rattle.packet_numbers.proofs.all_unused.Goals as goal

pub returns : goal.returns
returns c =
    unused-all _ c.loop-i.invariant.0 c.loop-i-test.false c.loop-i.invariant.1
