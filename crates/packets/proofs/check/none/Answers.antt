-- `packets::check::none` meets its contract: the bits so far are none exactly if the numbers so far are all 0. Assumes nothing.
use native.Mathlib.Omega.{arith}
use mathlib.Core.Path.{refl, ◌∙◌}
use lib.Dec.{eqb}
use lib.ListN.{get_or}
use Rattle.laws.proofs.Turns.{every_more}
use Rattle.packets.proofs.Checking.{or_none}
use Rattle.packets.proofs.check.none.Goals as goal

pub loop-number-preserved : goal.loop-number-preserved
loop-number-preserved c =
    let at = c.loop-number in
    let s = c.args.s.now in
    (omega (arith, c.loop-number-test.true), or_none at.any (get_or s at.number-index 0) ∙ every_more at.number-index (λ k. eqb (get_or s k 0) 0) at.invariant.1 refl)
