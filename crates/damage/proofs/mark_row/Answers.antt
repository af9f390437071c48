-- `damage::mark_row` meets its contract: the marks filled in from where the damage begins (proofs/Begins.antt), or each sample's own, carried
-- onward (proofs/MarkedRows.antt). Assumes nothing.
use Rattle.words.proofs.Served.{served-some}
use Rattle.damage.proofs.Begins.{row_words, begun-marked}
use Rattle.damage.proofs.MarkedRows.{own_bits, onward_bits, row-marked}
use Rattle.damage.proofs.mark_row.Goals as goal

pub pixel_struck-requires : goal.pixel_struck-requires
pixel_struck-requires c =
    row_words c.requires c.first_damaged-at.ensures

pub sample_of-requires : goal.sample_of-requires
sample_of-requires c =
    (served-some _ c.requires.takes).0

pub onward-requires : goal.onward-requires
onward-requires c =
    (own_bits _ c.requires c.own.ensures, c.requires.channel)

pub total-requires : goal.total-requires
total-requires c =
    onward_bits _ c.requires c.own.ensures _ c.onward.ensures

pub returns-then-pixel_struck : goal.returns-then-pixel_struck
returns-then-pixel_struck c =
    begun-marked c.requires c.first_damaged-at.ensures (c.pixel_struck.ensures c.if-pixel_struck.true) _ c.sample_of.ensures _ _ c.mark_from.ensures

pub returns-else-pixel_struck : goal.returns-else-pixel_struck
returns-else-pixel_struck c =
    row-marked _ c.requires c.own.ensures _ _ c.onward.ensures c.total.ensures
