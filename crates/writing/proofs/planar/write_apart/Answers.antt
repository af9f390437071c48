-- `writing::planar::write_apart` meets its contract: the invariant and its laws are in proofs/Planewise.antt. Assumes nothing.
use native.Mathlib.Omega.{arith}
use Prim.Native.Nat.{◌<◌}
use Rattle.laws.proofs.Groups.{turn_next}
use Rattle.writing.proofs.Planewise.{plane_room, plane_next, planes_ended}
use Rattle.writing.proofs.planar.write_apart.Goals.{In-loop-c}
use Rattle.writing.proofs.planar.write_apart.Goals as goal

more : (c : In-loop-c) → c.loop-c.c < c.args.l.fields.ch
more c =
    omega (arith, c.loop-c-test.true)

pub overflow_add-end : goal.overflow_add-end
overflow_add-end c =
    let is = c.loop-c.invariant in omega (arith, is.0, plane_room c.requires is.1 (more (goal.at.overflow_add-end c).In-loop-c))

pub slice_bounds-write_plane-end : goal.slice_bounds-write_plane-end
slice_bounds-write_plane-end c =
    let is = c.loop-c.invariant in omega (arith, is.0, plane_room c.requires is.1 (more (goal.at.slice_bounds-write_plane-end c).In-loop-c), is.1.same)

pub loop-c-preserved : goal.loop-c-preserved
loop-c-preserved c =
    let is = c.loop-c.invariant in (
      omega (arith, is.0, turn_next c.loop-c.c c.args.l.plane_len),
      rw is.0 (plane_next c.requires is.1 (more (goal.at.loop-c-preserved c).In-loop-c) _ (rw is.0 at c.write_plane.ensures)),
    )

pub returns : goal.returns
returns c =
    planes_ended c.requires c.loop-c.invariant.1 (omega (arith, c.loop-c-test.false))
