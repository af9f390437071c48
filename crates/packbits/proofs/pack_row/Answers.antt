-- `packbits::pack_row` meets its promise: it refuses for want of room alone, and past that writes literals. Assumes nothing.
use native.Mathlib.Omega.{arith}
use Rattle.answer.proofs.Promised.{refuses}
use Rattle.packbits.specs.Plans.{pack_faults}
use Rattle.packbits.proofs.Putting.{pack_first}
use Rattle.packbits.proofs.pack_row.Goals as goal

pub returns-then-out-n : goal.returns-then-out-n
returns-then-out-n c =
    let args = c.args in
    refuses (pack_faults args.row.now args.out.now) _ _ _ (pack_first args.row.now args.out.now (omega (arith, c.if-out-n.true)))

pub returns-then-out-n-2 : goal.returns-then-out-n-2
returns-then-out-n-2 c =
    let args = c.args in
    refuses (pack_faults args.row.now args.out.now) _ _ _ (pack_first args.row.now args.out.now (omega (arith, c.if-out-n-2.true, c.if-out-n.false, c.literals_of-packets.ensures)))
