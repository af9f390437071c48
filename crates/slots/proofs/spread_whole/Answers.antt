-- `slots::spread_whole` meets its contract: eight columns for each byte. Assumes nothing.
use Prim.Native.Nat.{◌+◌, ◌*◌}
use mathlib.Core.Path.{◌≡◌, ap, ◌∙◌}
use native.Mathlib.Omega.{arith}
use lib.ListN.{length, get_or}
use Rattle.answer.proofs.Filling.{length-filled}
use Rattle.pixels.specs.Render.{flipped}
use Rattle.slots.specs.Rows.{bilevel_at}
use Rattle.slots.proofs.Spreading.{spread_filled}
use Rattle.slots.proofs.spread_whole.Goals as goal

pub loop-i-preserved : goal.loop-i-preserved
loop-i-preserved c =
    let args = c.args in
    let more = c.loop-i-test.true in
    let byte : c.flip.result ≡ flipped args.white (get_or args.raw.now c.loop-i.i 0) = c.flip.ensures in
    let next : 8 * c.loop-i.i + 8 ≡ 8 * (c.loop-i.i + 1) = omega arith in
    let old = args.out.now in
    let put = spread_filled args.raw.now args.white old c.loop-i.out _ c.loop-i.i 8 (omega arith) (omega arith) (omega (arith, c.type_inv.raw c.loop-i.i)) c.loop-i.invariant.1 (rw byte at c.spread.ensures) in
    (ap length put ∙ length-filled (8 * c.loop-i.i + 8) (bilevel_at args.white args.raw.now) old (omega arith), rw next at put)
