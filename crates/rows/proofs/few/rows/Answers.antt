-- `rows::few::rows` meets its contract: the invariant and its laws are in proofs/Rows.antt. Assumes nothing.
use Rattle.std.proofs.Common.{◌<◌, length, arith}
use Rattle.rows.proofs.Rows.{row_room, row-resumed, row_turned}
use Rattle.rows.proofs.few.rows.Goals.{In-loop-at}
use Rattle.rows.proofs.few.rows.Goals as goal

more : (c : In-loop-at) → c.loop-at.at < length c.args.raw.now
more c =
    omega (arith, c.loop-at-test.true, c.loop-at.invariant.inside)

pub slice_bounds-row-end : goal.slice_bounds-row-end
slice_bounds-row-end c =
    row_room c.requires.good c.requires.room c.loop-at.invariant (more (goal.at.slice_bounds-row-end c).In-loop-at)

pub loop-at-preserved : goal.loop-at-preserved
loop-at-preserved c =
    let inv = c.loop-at.invariant in
    row_turned c.requires.good c.requires.room inv (more (goal.at.loop-at-preserved c).In-loop-at) _ _ (row-resumed c.requires inv (more (goal.at.loop-at-preserved c).In-loop-at) c.args.form.le c.args.form.out_le) c.few.ensures
