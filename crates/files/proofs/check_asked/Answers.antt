-- `files::check_asked` meets its contract: the record's faults, then the kind's, then that of the rows. Assumes nothing.
use Rattle.answer.proofs.Promised.{step-on}
use Rattle.answer.proofs.Handed.{step-handed}
use Rattle.layout.specs.Layout.{record_faults}
use Rattle.files.proofs.check_asked.Goals as goal

pub returns-in_err-fault : goal.returns-in_err-fault
returns-in_err-fault c =
    step-on {fs = record_faults c.args.l} (record { passed = c.check_record.ensures }) c.in_ok-check_record.was (step-handed _ (rw c.served.ensures at c.fault.ensures) c.in_err-fault.was c.from_residual-in_err-fault.ensures)

pub returns : goal.returns
returns c =
    step-on {fs = record_faults c.args.l} (record { passed = c.check_record.ensures }) c.in_ok-check_record.was (step-on (rw c.served.ensures at c.fault.ensures) c.in_ok-fault.was c.fault-2.ensures)
