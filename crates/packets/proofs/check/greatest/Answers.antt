-- `packets::check::greatest` meets its contract: a width that is none of the first four is 8. Assumes nothing.
use mathlib.Core.Path.{◌≡◌}
use Rattle.words.proofs.Served.{served_eight}
use Rattle.packets.proofs.check.greatest.Goals as goal

pub returns-else-width-eq4 : goal.returns-else-width-eq4
returns-else-width-eq4 c =
    let eight : c.args.width ≡ 8 = served_eight _ c.requires c.if-width-eq1.false c.if-width-eq2.false c.if-width-eq3.false c.if-width-eq4.false in
    rw eight
