-- `packbits::moving::repeat` meets its contract: a part of the row is a byte repeated. Assumes nothing.
use Rattle.packbits.proofs.Placing.{part_filled_with}
use Rattle.packbits.proofs.moving.repeat.Goals as goal

pub returns : goal.returns
returns c =
    let args = c.args in
    part_filled_with args.out.now args.n args.to args.b c.requires c.fill_with.ensures
