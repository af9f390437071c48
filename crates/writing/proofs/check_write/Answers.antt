-- `writing::check_write` meets its contract: the record's refusal, then the others. Assumes nothing.
use Rattle.answer.specs.Outcome.{Step}
use Rattle.answer.proofs.Promised.{step-sound, step-on}
use Rattle.answer.proofs.Handed.{step-handed}
use Rattle.layout.specs.Layout.{record_faults}
use Rattle.pixels.specs.Planes.{plane_faults}
use Rattle.writing.proofs.check_write.Goals.{After-check_record}
use Rattle.writing.proofs.check_write.Goals as goal

-- the record's faults
recorded : (c : After-check_record) → Step (record_faults c.args.l) c.check_record.result
recorded c =
    record { passed = c.check_record.ensures }

pub check_planes-requires : goal.check_planes-requires
check_planes-requires c =
    step-sound (recorded (goal.at.check_planes-requires c).After-check_record) c.in_ok-check_record.was

pub returns-in_err-check_record : goal.returns-in_err-check_record
returns-in_err-check_record c =
    let args = c.args in
    step-handed (plane_faults args.l args.picture.now args.planes.now) (recorded (goal.at.returns-in_err-check_record c).After-check_record) c.in_err-check_record.was c.from_residual.ensures

pub returns : goal.returns
returns c =
    step-on (recorded (goal.at.returns c).After-check_record) c.in_ok-check_record.was c.check_planes.ensures
