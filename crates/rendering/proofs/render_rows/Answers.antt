-- `rendering::render_rows` meets its contract: the invariant and its laws are in proofs/Picture.antt. Assumes nothing.
use native.Mathlib.Omega.{arith}
use Prim.Native.Nat.{◌+◌, ◌≤◌}
use Rattle.laws.proofs.Groups.{turn_next}
use Rattle.pixels.specs.Render.{row_bytes}
use Rattle.rendering.proofs.Picture.{row_small, rendered_room, rendered_next, rendered_all}
use Rattle.rendering.proofs.render_rows.Goals.{In-loop-y}
use Rattle.rendering.proofs.render_rows.Goals as goal

room : (c : In-loop-y) → c.loop-y.at + row_bytes c.args.l ≤ c.args.l.output_len
room c =
    let is = c.loop-y.invariant in rw is.0 (rendered_room c.requires is.1 (omega (arith, c.loop-y-test.true)))

pub overflow_mul-row_bytes : goal.overflow_mul-row_bytes
overflow_mul-row_bytes c =
    let small = row_small c.requires in record { fits = omega (arith, small.0, small.1) }

pub overflow_mul-row_bytes-2 : goal.overflow_mul-row_bytes-2
overflow_mul-row_bytes-2 c =
    record { fits = omega (arith, (row_small c.requires).1) }

pub overflow_add-end : goal.overflow_add-end
overflow_add-end c =
    omega (arith, room (goal.at.overflow_add-end c).In-loop-y, c.requires.room, c.well_formed)

pub slice_bounds-render_row-end : goal.slice_bounds-render_row-end
slice_bounds-render_row-end c =
    omega (arith, room (goal.at.slice_bounds-render_row-end c).In-loop-y, c.loop-y.invariant.1.same, c.requires.room)

pub loop-y-preserved : goal.loop-y-preserved
loop-y-preserved c =
    let is = c.loop-y.invariant in (
      omega (arith, is.0, turn_next c.loop-y.y (row_bytes c.args.l)),
      rw is.0 (rendered_next c.requires is.1 (omega (arith, c.loop-y-test.true)) _ (rw is.0 at c.render_row.ensures)),
    )

pub returns : goal.returns
returns c =
    rendered_all c.requires c.loop-y.invariant.1 (omega (arith, c.loop-y-test.false))
