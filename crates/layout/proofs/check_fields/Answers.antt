-- `layout::check_fields` meets its contract: the three steps' faults, one list after another. Assumes nothing.
use Rattle.answer.proofs.Handed.{handed}
use Rattle.answer.proofs.Promised.{step-sound, step-refused, step-on}
use Rattle.layout.proofs.check_fields.Goals as goal

pub returns-in_err-check_agreed : goal.returns-in_err-check_agreed
returns-in_err-check_agreed c =
    rw (handed c.from_residual-in_err-check_agreed.result _ c.from_residual-in_err-check_agreed.ensures)
    (step-on c.check_served.ensures c.in_ok-check_served.was (step-refused _ c.check_agreed.ensures c.in_err-check_agreed.was))

pub check_size-requires : goal.check_size-requires
check_size-requires c =
    step-sound c.check_served.ensures c.in_ok-check_served.was

pub returns : goal.returns
returns c =
    step-on c.check_served.ensures c.in_ok-check_served.was (step-on c.check_agreed.ensures c.in_ok-check_agreed.was c.check_size.ensures)
