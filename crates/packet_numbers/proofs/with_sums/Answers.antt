-- `packet_numbers::with_sums` meets its contract: the sums so far are stored from number 8 on. Assumes nothing.
use Rattle.packet_numbers.proofs.Standing.{with_all}
use Rattle.packet_numbers.proofs.with_sums.Goals as goal

pub returns : goal.returns
returns c =
    with_all _ c.loop-i.invariant.0 c.loop-i-test.false c.loop-i.invariant.1
