-- `packets::feed::predicted` meets its contract: within the row, or up to its end and past it. Assumes nothing.
use native.Mathlib.Omega.{arith}
use native.Mathlib.Nat.{mod-lt}
use Prim.Native.Nat.{◌%◌, ◌<◌}
use Rattle.packets.proofs.Wordwise.{is}
use Rattle.packets.proofs.feed.predicted.Goals as goal

pub nonzero_rem-place : goal.nonzero_rem-place
nonzero_rem-place c =
    (is c.requires.feed).good.long

pub overflow_sub-plan : goal.overflow_sub-plan
overflow_sub-plan c =
    let less : c.args.received % c.args.plan.row_bytes < c.args.plan.row_bytes = mod-lt c.args.received (is c.requires.feed).good.long in
    omega (arith, less)
