-- `packbits::reading::check_packet` meets its contract: the three faults in their order. Assumes nothing.
use Rattle.std.proofs.Common.{arith}
use Rattle.packbits.proofs.Packets.{missing, there}
use Rattle.packbits.proofs.reading.check_packet.Goals as goal

pub returns-then-there-eq0 : goal.returns-then-there-eq0
returns-then-there-eq0 c =
    let args = c.args in missing args.packed.now args.at args.left (omega (arith, c.if-there-eq0.true))

pub returns : goal.returns
returns c =
    let args = c.args in
    there args.packed.now args.at args.left (omega (arith, c.if-there-eq0.false)) c.from-header.ensures c.fills.ensures c.takes.ensures (c.first_of.ensures _ _ c.fault.ensures c.fault-2.ensures)
