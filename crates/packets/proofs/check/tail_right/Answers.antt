-- `packets::check::tail_right` meets its contract: the answer so far is the test of the bytes so far. Assumes nothing.
use native.Mathlib.Omega.{arith}
use Rattle.packets.proofs.Checking.{tails-all}
use Rattle.packets.proofs.check.tail_right.Goals as goal

pub returns : goal.returns
returns c =
    tails-all _ _ c.loop-i.invariant.0 (omega (arith, c.loop-i-test.false, c.requires)) c.loop-i.invariant.1
