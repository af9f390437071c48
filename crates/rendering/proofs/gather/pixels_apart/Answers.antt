-- `rendering::gather::pixels_apart` meets its contract: the invariant and its laws are in proofs/Gathering.antt. Assumes nothing.
use native.Mathlib.Omega.{arith}
use Prim.Native.Nat.{◌*◌}
use Rattle.laws.proofs.Groups.{turn_next}
use Rattle.rendering.proofs.Gathering.{pixel_fits, pixel_next}
use Rattle.rendering.proofs.gather.pixels_apart.Goals as goal

pub pixel-requires : goal.pixel-requires
pixel-requires g c =
    let is = c.loop-p.invariant in (rw (is.0, is.1) (pixel_fits c.requires is.2 (omega (arith, c.loop-p-test.true))), c.requires.width)

pub loop-p-preserved : goal.loop-p-preserved
loop-p-preserved g c =
    let is = c.loop-p.invariant in (
      omega (arith, is.0, turn_next c.loop-p.p g.row.BYTES),
      omega (arith, is.1, turn_next c.loop-p.p (g.row.CHANNELS * g.row.BYTES)),
      pixel_next c.requires is.2 (omega (arith, c.loop-p-test.true)) _ (rw (is.0, is.1) at c.pixel.ensures),
    )
