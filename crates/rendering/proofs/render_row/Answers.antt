-- `rendering::render_row` meets its contract: each kind of layout by its own function. Assumes nothing.
use borrow.Author.Tests.{ne_eqb}
use Rattle.rendering.proofs.Picture.{plain_row_rendered}
use Rattle.rendering.proofs.render_row.Goals as goal

pub returns-else-l-eq8 : goal.returns-else-l-eq8
returns-else-l-eq8 c =
    let args = c.args in
    plain_row_rendered args.l args.file.now args.raw.now args.y args.out.now _ c.if-l-eq8.false.0 (ne_eqb _ _ c.if-l-eq8.false.1) c.plain_row.ensures
