-- `damage::onward::onward` meets its contract: the invariant and its laws are in proofs/Loops.antt. Assumes nothing.
use native.Mathlib.Omega.{arith}
use Prim.Native.Nat.{◌<◌}
use lib.ListN.{length}
use Rattle.damage.proofs.Loops.{onward_none, onward_turned, onward_ended}
use Rattle.damage.proofs.onward.onward.Goals as goal

pub loop-n-init : goal.loop-n-init
loop-n-init c =
    onward_none _ _ c.requires.0

pub loop-n-preserved : goal.loop-n-preserved
loop-n-preserved c =
    let more : c.loop-n.n < length c.args.marks.now = omega (arith, c.loop-n-test.true, c.loop-n.invariant.same) in
    let pre = c.requires in
    onward_turned c.loop-n.invariant pre.0 pre.1 more _ (omega (arith, c.larger.ensures))

pub returns : goal.returns
returns c =
    onward_ended c.loop-n.invariant (omega (arith, c.loop-n-test.false, c.loop-n.invariant.same))
