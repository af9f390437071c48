-- `layout::source::packed_index` meets its contract: nothing divides by 0, and the sum is below the scratch length. Assumes nothing.
use native.Mathlib.Omega.{arith}
use Prim.Native.Nat.{◌≤◌}
use mir.Facts.{Fits-below}
use Rattle.layout.specs.Layout.{byte_limit, packed_index}
use Rattle.layout.proofs.Accepted.{Accepted, up_to_eight}
use Rattle.layout.proofs.Whole.{record_accepted}
use Rattle.layout.proofs.Placed.{packed_below, scratch_limited}
use Rattle.layout.proofs.source.packed_index.Goals.{Start}
use Rattle.layout.proofs.source.packed_index.Goals as goal

known : (c : Start) → Accepted c.args.l.fields
known c =
    record_accepted c.args.l c.requires.0.sound

-- the place is within the limit
limited : (c : Start) → packed_index c.args.l c.args.k ≤ byte_limit
limited c =
    let asked = c.requires.0 in
    omega (arith, packed_below c.args.l asked.sound c.args.k c.requires.1 asked.within, scratch_limited c.args.l asked.sound)

pub nonzero_div-result : goal.nonzero_div-result
unfolding packed_index
nonzero_div-result c =
    (known (goal.at.nonzero_div-result c).Start).wide

pub overflow_mul-result : goal.overflow_mul-result
unfolding packed_index
overflow_mul-result c =
    Fits-below {n = byte_limit} tt (omega (arith, limited (goal.at.overflow_mul-result c).Start))

pub nonzero_rem-result : goal.nonzero_rem-result
unfolding packed_index
nonzero_rem-result c =
    (known (goal.at.nonzero_rem-result c).Start).wide

pub nonzero_div-result-2 : goal.nonzero_div-result-2
unfolding packed_index
nonzero_div-result-2 c =
    (up_to_eight (known (goal.at.nonzero_div-result-2 c).Start).slots).0

pub overflow_add-result : goal.overflow_add-result
unfolding packed_index
overflow_add-result c =
    Fits-below {n = byte_limit} tt (omega (arith, limited (goal.at.overflow_add-result c).Start))
