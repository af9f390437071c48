-- `layout::rules::check_size` meets its contract: within the limits no product wraps. Assumes nothing.
use borrow.Author.Tests.{ltb-false}
use native.Mathlib.Omega.{arith}
use Prim.Native.Nat.{◌≤◌}
use Rattle.answer.proofs.Promised.{sound-here, step-sound}
use Rattle.layout.specs.Layout.{side_limit}
use Rattle.layout.proofs.Accepted.{served-few}
use Rattle.layout.proofs.Sizes.{part_fits, whole-fits}
use Rattle.layout.proofs.rules.check_size.Goals.{In_ok-fault-2}
use Rattle.layout.proofs.rules.check_size.Goals as goal

-- what the steps before have shown, where the product begins
sides : (c : In_ok-fault-2) → let f = c.args.f in (f.w ≤ side_limit) × (f.h ≤ side_limit)
sides c =
    let f = c.args.f in
    (ltb-false side_limit f.w (sound-here (step-sound c.fault.ensures c.in_ok-fault.was)), ltb-false side_limit f.h (sound-here (step-sound c.fault-2.ensures c.in_ok-fault-2.was)))

pub overflow_mul-f-2 : goal.overflow_mul-f-2
overflow_mul-f-2 c =
    let side = sides (goal.at.overflow_mul-f-2 c).In_ok-fault-2 in
    let small = served-few c.args.f c.requires in part_fits side.0 side.1 (omega arith)

pub overflow_mul-f-3 : goal.overflow_mul-f-3
overflow_mul-f-3 c =
    let side = sides (goal.at.overflow_mul-f-3 c).In_ok-fault-2 in
    let small = served-few c.args.f c.requires in whole-fits side.0 side.1 (omega arith) (omega arith)
