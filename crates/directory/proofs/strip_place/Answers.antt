-- `directory::strip_place` meets its contract: past the page's faults the strip's. Assumes nothing.
use Rattle.std.proofs.Common.{ap, ◌∙◌}
use Rattle.answer.proofs.Handed.{handed}
use Rattle.directory.specs.Page.{place_outcome}
use Rattle.directory.proofs.Calls.{one_place, page_refused}
use Rattle.directory.proofs.strip_place.Goals as goal

pub returns-in_err-w : goal.returns-in_err-w
returns-in_err-w c =
    let args = c.args in
    ap place_outcome (handed _ _ c.from_residual.ensures) ∙ page_refused args.file.now args.page c.open_page.result c.open_page.ensures _ _ _ c.in_err-w.was

pub returns : goal.returns
returns c =
    let args = c.args in
    one_place args.file.now args.page c.open_page.result c.open_page.ensures _ c.in_ok-w.was args.k c.one_strip.result c.one_strip.ensures
