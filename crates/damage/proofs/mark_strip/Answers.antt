-- `damage::mark_strip` meets its contract: row by row with prediction, each sample's own mark without. Assumes nothing.
use Rattle.damage.proofs.MarkedRows.{marks_bits, own_marked}
use Rattle.damage.proofs.mark_strip.Goals as goal

pub total-requires : goal.total-requires
total-requires c =
    marks_bits c.requires _ c.own.ensures

pub returns-else-predict : goal.returns-else-predict
returns-else-predict c =
    rw c.if-predict.false (own_marked c.requires _ _ c.own.ensures c.total.ensures)
