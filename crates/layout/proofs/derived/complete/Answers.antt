-- `layout::derived::complete` meets its contract: each field is its definition, and within the limits nothing wraps. Assumes nothing.
use native.Mathlib.Omega.{arith}
use Rattle.layout.specs.Layout.{encoded_width, plane_length, scratch_length, output_length}
use Rattle.layout.proofs.Accepted.{Accepted, accepted, up_to_eight}
use Rattle.layout.proofs.Sizes.{area_fits, part_fits, whole-fits, encoded_side, plane_few, planes-few}
use Rattle.layout.proofs.derived.complete.Goals.{Start}
use Rattle.layout.proofs.derived.complete.Goals as goal

known : (c : Start) → Accepted c.args.f
known c =
    accepted c.args.f c.requires

pub overflow_sub-encoded_width : goal.overflow_sub-encoded_width
unfolding encoded_width plane_length scratch_length output_length
overflow_sub-encoded_width c =
    (known (goal.at.overflow_sub-encoded_width c).Start).wide

pub nonzero_div-encoded_width : goal.nonzero_div-encoded_width
unfolding encoded_width plane_length scratch_length output_length
nonzero_div-encoded_width c =
    (up_to_eight (known (goal.at.nonzero_div-encoded_width c).Start).slots).0

pub overflow_mul-plane_len : goal.overflow_mul-plane_len
unfolding encoded_width plane_length scratch_length output_length
overflow_mul-plane_len c =
    let a = known (goal.at.overflow_mul-plane_len c).Start in area_fits (encoded_side _ a) a.height

pub overflow_mul-plane_len-2 : goal.overflow_mul-plane_len-2
unfolding encoded_width plane_length scratch_length output_length
overflow_mul-plane_len-2 c =
    let f = c.args.f in
    let a = known (goal.at.overflow_mul-plane_len-2 c).Start in
    let few = plane_few f a in part_fits (encoded_side f a) a.height (omega arith)

pub overflow_mul-result : goal.overflow_mul-result
unfolding encoded_width plane_length scratch_length output_length
overflow_mul-result c =
    let f = c.args.f in
    let a = known (goal.at.overflow_mul-result c).Start in
    let few = plane_few f a in
    let fewer = planes-few f a in whole-fits (encoded_side f a) a.height (omega arith) (omega arith)

pub overflow_mul-result-2 : goal.overflow_mul-result-2
unfolding encoded_width plane_length scratch_length output_length
overflow_mul-result-2 c =
    let a = known (goal.at.overflow_mul-result-2 c).Start in area_fits a.width a.height

pub overflow_mul-result-3 : goal.overflow_mul-result-3
unfolding encoded_width plane_length scratch_length output_length
overflow_mul-result-3 c =
    let a = known (goal.at.overflow_mul-result-3 c).Start in part_fits a.width a.height (omega arith)

pub overflow_mul-result-4 : goal.overflow_mul-result-4
unfolding encoded_width plane_length scratch_length output_length
overflow_mul-result-4 c =
    let a = known (goal.at.overflow_mul-result-4 c).Start in
    let few = up_to_eight a.bytes in whole-fits a.width a.height (omega arith) (omega arith)
