-- `pixels::straighten_pixels` meets its contract: the invariant and its laws are in proofs/Pixels.antt. Assumes nothing.
use borrow.Author.Rules.{rules}
use native.Mathlib.Omega.{arith}
use Rattle.laws.proofs.Groups.{turn_next}
use Rattle.pixels.proofs.Pixels.{pixel_given, pixel_turned}
use Rattle.pixels.proofs.straighten_pixels.Goals as goal

pub straighten_pixel-requires : goal.straighten_pixel-requires
straighten_pixel-requires c =
    let is = c.loop-p.invariant in rw is.0 (pixel_given c.requires.0 is.1 (omega (arith, c.loop-p-test.true)) _ (λ e. c.requires.1.right _ (search rules)))

pub loop-p-preserved : goal.loop-p-preserved
loop-p-preserved c =
    let is = c.loop-p.invariant in (
      omega (arith, is.0, turn_next c.loop-p.p c.args.channels),
      pixel_turned c.requires.0 is.1 (omega (arith, c.loop-p-test.true)) _ (rw is.0 at c.straighten_pixel.ensures),
    )
