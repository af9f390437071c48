-- `directory::read_directory` meets its contract: past the page's faults its strips'. Assumes nothing.
use Rattle.std.proofs.Common.{◌∙◌}
use Rattle.answer.proofs.Handed.{handed_outcome}
use Rattle.directory.proofs.Calls.{all-strips, page_refused}
use Rattle.directory.proofs.read_directory.Goals as goal

pub returns-in_err-w : goal.returns-in_err-w
returns-in_err-w c =
    let args = c.args in
    handed_outcome _ _ c.from_residual.ensures ∙ page_refused args.file.now args.page c.open_page.result c.open_page.ensures _ _ _ c.in_err-w.was

pub returns : goal.returns
returns c =
    let args = c.args in
    all-strips args.file.now args.page c.open_page.result c.open_page.ensures _ c.in_ok-w.was c.read_strips.result c.read_strips.ensures
