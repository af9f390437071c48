-- `rows::resume::words` meets its contract: the invariant and its laws are in proofs/Running.antt. Assumes nothing.
use Rattle.std.proofs.Common.{◌+◌, ◌≤◌, length, arith}
use Rattle.rows.proofs.Running.{run_room, run_turned}
use Rattle.rows.proofs.resume.words.Goals.{In-loop-at}
use Rattle.rows.proofs.resume.words.Goals as goal

-- a whole word is there, and its channel's sum
room : (c : In-loop-at) → c.loop-at.at + c.args.width ≤ length c.args.raw.now
room c =
    run_room _ _ _ _ _ _ _ _ c.requires c.loop-at.invariant c.loop-at-test.true

pub sum-sample-requires : goal.sum-sample-requires
sum-sample-requires c =
    (c.requires.takes, room (goal.at.sum-sample-requires c).In-loop-at)

pub put-requires : goal.put-requires
put-requires c =
    (c.requires.takes, omega (arith, room (goal.at.put-requires c).In-loop-at, c.loop-at.invariant.upto.same, c.requires.same))

pub loop-at-preserved : goal.loop-at-preserved
loop-at-preserved c =
    run_turned _ _ _ _ _ _ _ _ c.requires c.loop-at.invariant c.loop-at-test.true _ _ _ c.sum-sample.ensures c.put.ensures c.following-channel.ensures
