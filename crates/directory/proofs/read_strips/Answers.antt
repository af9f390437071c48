-- `directory::read_strips` meets its contract: the first strip that has a fault decides. Assumes nothing.
use Rattle.std.proofs.Common.{◌∙◌}
use Rattle.answer.proofs.Handed.{handed_outcome}
use Rattle.answer.proofs.Promised.{finishing, refusing, step-first, step-sound}
use Rattle.directory.proofs.read_strips.Goals as goal

pub returns-in_err-check_strips : goal.returns-in_err-check_strips
returns-in_err-check_strips c =
    handed_outcome _ _ c.from_residual.ensures ∙ refusing _ _ (step-first c.check_strips.ensures c.in_err-check_strips.was)

pub returns : goal.returns
returns c =
    rw c.page_by.ensures (finishing _ _ (step-sound c.check_strips.ensures c.in_ok-check_strips.was))
