-- `directory::pages::open_page` meets its contract: the tags' faults, then the layout's. Assumes nothing.
use Rattle.answer.proofs.Handed.{handed}
use Rattle.directory.proofs.Laying.{tags_laid, tags_refused}
use Rattle.directory.proofs.pages.open_page.Goals as goal

pub returns-in_err-t : goal.returns-in_err-t
returns-in_err-t c =
    let args = c.args in
    rw (handed _ _ c.from_residual.ensures) (tags_refused args.file.now args.page c.read_tags.result c.read_tags.ensures _ c.in_err-t.was)

pub returns : goal.returns
returns c =
    let args = c.args in
    tags_laid args.file.now args.page c.read_tags.result c.read_tags.ensures _ c.lay_out.result c.in_ok-t.was c.lay_out.ensures
