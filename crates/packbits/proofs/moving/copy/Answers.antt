-- `packbits::moving::copy` meets its contract: a part of the row is a copy of a part of the input. Assumes nothing.
use Rattle.packbits.proofs.Placing.{part_copied}
use Rattle.packbits.proofs.moving.copy.Goals as goal

pub returns : goal.returns
returns c =
    let args = c.args in
    part_copied args.source.now args.out.now args.begin args.n args.to c.requires c.move_into.ensures
