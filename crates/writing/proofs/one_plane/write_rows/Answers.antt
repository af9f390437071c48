-- `writing::one_plane::write_rows` meets its contract: the invariant and its laws are in proofs/Rowwise.antt. Assumes nothing.
use native.Mathlib.Omega.{arith}
use Prim.Native.Nat.{◌*◌, ◌≤◌, ◌<◌}
use Rattle.layout.specs.Layout.{side_limit}
use Rattle.laws.proofs.Groups.{turn_next}
use Rattle.pixels.specs.Render.{row_bytes, plane_row}
use Rattle.writing.proofs.Rowwise.{rows_few, written-room, written_next, written_all}
use Rattle.writing.proofs.one_plane.write_rows.Goals.{In-loop-y, Start}
use Rattle.writing.proofs.one_plane.write_rows.Goals as goal

-- no product wraps
few : (c : Start) → let l = c.args.l in ((l.fields.ch * l.fields.bytes ≤ 32) × (row_bytes l ≤ side_limit * 32)) × (plane_row l ≤ side_limit * 32)
few c =
    let pre = c.requires in rows_few c.args.l pre.served.sound pre.served.bare pre.together

more : (c : In-loop-y) → c.loop-y.y < c.args.l.fields.h
more c =
    omega (arith, c.loop-y-test.true)

pub overflow_mul-read : goal.overflow_mul-read
overflow_mul-read c =
    omega (arith, few (goal.at.overflow_mul-read c).Start)

pub overflow_mul-read-2 : goal.overflow_mul-read-2
overflow_mul-read-2 c =
    omega (arith, few (goal.at.overflow_mul-read-2 c).Start)

pub overflow_mul-wrote : goal.overflow_mul-wrote
overflow_mul-wrote c =
    omega (arith, few (goal.at.overflow_mul-wrote c).Start)

pub overflow_add-end : goal.overflow_add-end
overflow_add-end c =
    let is = c.loop-y.invariant in omega (arith, is.0, written-room c.requires is.2 (more (goal.at.overflow_add-end c).In-loop-y), c.well_formed)

pub overflow_add-stop : goal.overflow_add-stop
overflow_add-stop c =
    let is = c.loop-y.invariant in omega (arith, is.1, written-room c.requires is.2 (more (goal.at.overflow_add-stop c).In-loop-y), few (goal.at.overflow_add-stop c).Start)

pub slice_bounds-write_row-end : goal.slice_bounds-write_row-end
slice_bounds-write_row-end c =
    let is = c.loop-y.invariant in omega (arith, is.0, written-room c.requires is.2 (more (goal.at.slice_bounds-write_row-end c).In-loop-y))

pub slice_bounds-write_row-end-in-loop-y : goal.slice_bounds-write_row-end-in-loop-y
slice_bounds-write_row-end-in-loop-y c =
    let is = c.loop-y.invariant in omega (arith, is.1, written-room c.requires is.2 (more (goal.at.slice_bounds-write_row-end-in-loop-y c).In-loop-y), is.2.same)

pub loop-y-preserved : goal.loop-y-preserved
loop-y-preserved c =
    let is = c.loop-y.invariant in (
      omega (arith, is.0, turn_next c.loop-y.y (row_bytes c.args.l)),
      omega (arith, is.1, turn_next c.loop-y.y (plane_row c.args.l)),
      rw is.1 (written_next c.requires is.2 (more (goal.at.loop-y-preserved c).In-loop-y) _ (rw (is.0, is.1) at c.write_row.ensures)),
    )

pub returns : goal.returns
returns c =
    written_all c.requires c.loop-y.invariant.2 (omega (arith, c.loop-y-test.false))
