-- `rendering::plain::plain_row` meets its contract. Assumes nothing.
use Rattle.rendering.proofs.Finishing.{whole_gathered, plain_rendered}
use Rattle.rendering.proofs.plain.plain_row.Goals as goal

pub finish-requires : goal.finish-requires
finish-requires c =
    whole_gathered c.requires _ c.gather.ensures

pub returns : goal.returns
returns c =
    plain_rendered c.requires _ _ c.gather.ensures c.finish.ensures
