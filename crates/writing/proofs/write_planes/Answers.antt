-- `writing::write_planes` meets its promise: the refusals, then the planes. Assumes nothing.
use Rattle.answer.specs.Outcome.{Sound}
use Rattle.answer.proofs.Promised.{finishes, step-sound}
use Rattle.pixels.specs.Planes.{write_faults, written}
use Rattle.writing.proofs.Checks.{write_served}
use Rattle.writing.proofs.write_planes.Goals.{In_ok-check_write}
use Rattle.writing.proofs.write_planes.Goals as goal

-- no fault was found
sound : (c : In_ok-check_write) → let args = c.args in Sound (write_faults args.l args.picture.now args.planes.now)
sound c =
    step-sound c.check_write.ensures c.in_ok-check_write.was

pub write-requires : goal.write-requires
write-requires c =
    let args = c.args in write_served args.l args.picture.now args.planes.now (sound (goal.at.write-requires c).In_ok-check_write)

pub returns : goal.returns
returns c =
    let args = c.args in
    finishes (write_faults args.l args.picture.now args.planes.now) tt args.l.scratch_len (written args.l args.picture.now) _ _ (sound (goal.at.returns c).In_ok-check_write) c.write.ensures
