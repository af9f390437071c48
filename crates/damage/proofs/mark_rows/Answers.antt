-- `damage::mark_rows` meets its contract: the invariant and its laws are in proofs/MarkedRows.antt. Assumes nothing.
use native.Mathlib.Omega.{arith}
use Prim.Native.Nat.{◌+◌, ◌/◌, ◌≤◌}
use lib.ListN.{length}
use Rattle.damage.proofs.MarkedRows.{strip-wide, strip-long, row_room, marks-room, row_fits, row_turned, count_room, rows_ended}
use Rattle.damage.proofs.mark_rows.Goals.{In-loop-at}
use Rattle.damage.proofs.mark_rows.Goals as goal

free : (c : In-loop-at) → let args = c.args in c.loop-at.n + args.strip.row / args.strip.width ≤ length args.marks.now
free c =
    marks-room c.requires c.loop-at.invariant c.loop-at-test.true

pub nonzero_div-row_marks : goal.nonzero_div-row_marks
nonzero_div-row_marks c =
    strip-wide c.requires

pub overflow_add-last : goal.overflow_add-last
overflow_add-last c =
    omega (arith, free (goal.at.overflow_add-last c).In-loop-at, c.well_formed)

pub slice_bounds-mark_row-end : goal.slice_bounds-mark_row-end
slice_bounds-mark_row-end c =
    let room : let args = c.args in c.loop-at.at + args.strip.row ≤ length args.damage.now = row_room c.requires c.loop-at.invariant c.loop-at-test.true in
    omega (arith, room)

pub slice_bounds-mark_row-end-in-loop-at : goal.slice_bounds-mark_row-end-in-loop-at
slice_bounds-mark_row-end-in-loop-at c =
    omega (arith, free (goal.at.slice_bounds-mark_row-end-in-loop-at c).In-loop-at, c.loop-at.invariant.same)

pub mark_row-count-requires : goal.mark_row-count-requires
mark_row-count-requires c =
    row_fits c.requires c.loop-at.invariant c.loop-at-test.true

pub overflow_add-count : goal.overflow_add-count
overflow_add-count c =
    omega (arith, count_room c.requires c.loop-at.invariant c.loop-at-test.true _ _ c.mark_row-count.ensures, c.well_formed)

pub loop-at-smaller : goal.loop-at-smaller
loop-at-smaller c =
    omega (arith, strip-long c.requires, c.loop-at-test.true)

pub loop-at-preserved : goal.loop-at-preserved
loop-at-preserved c =
    row_turned c.requires c.loop-at.invariant c.loop-at-test.true _ _ c.mark_row-count.ensures

pub returns : goal.returns
returns c =
    rows_ended c.requires c.loop-at.invariant c.loop-at-test.false
