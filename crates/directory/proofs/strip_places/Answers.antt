-- `directory::strip_places` meets its contract: past the page's faults its strips', then the buffer's. Assumes nothing.
use Rattle.answer.proofs.Handed.{handed}
use Rattle.directory.proofs.Calls.{all_places, parts_refused}
use Rattle.directory.proofs.strip_places.Goals as goal

pub returns-in_err-w : goal.returns-in_err-w
returns-in_err-w c =
    let args = c.args in
    rw (handed _ _ c.from_residual.ensures) (parts_refused args.file.now args.page c.open_page.result c.open_page.ensures _ _ c.in_err-w.was)

pub returns : goal.returns
returns c =
    let args = c.args in
    all_places args.file.now args.page c.open_page.result c.open_page.ensures _ c.in_ok-w.was _ _ c.place_strips.result c.place_strips.ensures
