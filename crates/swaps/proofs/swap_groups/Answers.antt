-- `swaps::swap_groups` meets its contract: a group a turn, in the order of proofs/Swapping.antt. Assumes nothing.
use native.Mathlib.Nat.{mul-le-mul_right, zero-mul}
use native.Mathlib.Omega.{arith}
use mathlib.Core.Path.{sym}
use Prim.Native.Nat.{◌+◌, ◌≤◌}
use lib.ListN.{length}
use Rattle.laws.proofs.Groups.{turn_next, turn_room, turns_all}
use Rattle.swaps.proofs.Swapping.{begun, turned, ended}
use Rattle.swaps.proofs.swap_groups.Goals.{In-loop-n}
use Rattle.swaps.proofs.swap_groups.Goals as goal

there : (c : In-loop-n) → c.loop-n.at + c.args.width ≤ length c.args.raw.now
there c = omega (arith, turn_room c.loop-n.n c.args.width _ c.loop-n-test.true, c.loop-n.invariant.0)

pub loop-n-init : goal.loop-n-init
loop-n-init c =
    (sym (zero-mul c.args.width), rw (zero-mul c.args.width) at (begun c.args.raw.now c.args.width c.args.out.now))

pub swap_group-requires : goal.swap_group-requires
swap_group-requires c =
    let fits = c.requires in
    let room = there (goal.at.swap_group-requires c).In-loop-n in
    (fits.some, fits.few, record { there = room; here = omega (arith, room, fits.room, c.loop-n.invariant.1.same) })

pub overflow_add-at : goal.overflow_add-at
overflow_add-at c = omega (arith, there (goal.at.overflow_add-at c).In-loop-n, c.well_formed)

pub loop-n-preserved : goal.loop-n-preserved
loop-n-preserved c =
    (omega (arith, turn_next c.loop-n.n c.args.width, c.loop-n.invariant.0), turned c.requires c.loop-n.invariant.1 (omega (arith, there (goal.at.loop-n-preserved c).In-loop-n, c.requires.some)) _ c.swap_group.ensures)

pub returns : goal.returns
returns c =
    ended c.requires c.loop-n.invariant.1 (omega (arith, turns_all c.args.width _ c.requires.groups, mul-le-mul_right c.args.width c.loop-n-test.false, c.loop-n.invariant.0))
