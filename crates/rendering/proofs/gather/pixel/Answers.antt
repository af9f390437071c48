-- `rendering::gather::pixel` meets its contract: the invariant and its laws are in proofs/Gathering.antt. Assumes nothing.
use native.Mathlib.Omega.{arith}
use mathlib.Core.Path.{◌∙◌}
use Rattle.laws.proofs.Groups.{turn_next}
use Rattle.pixels.proofs.HighFirst.{word_read}
use Rattle.rendering.proofs.Gathering.{channel-next}
use Rattle.rendering.proofs.gather.pixel.Goals as goal

pub loop-c-preserved : goal.loop-c-preserved
loop-c-preserved g c =
    let is = c.loop-c.invariant in
    let word = word_read _ _ _ c.args.le c.copy_from_slice.new.self c.word-word.result c.requires.1 c.copy_from_slice.ensures.after c.word-word.ensures in (
      omega (arith, is.0, turn_next c.loop-c.c c.args.plane_len),
      omega (arith, is.1, turn_next c.loop-c.c g.row.BYTES),
      rw is.1 (channel-next c.requires.0 is.2 c.requires.1 (omega (arith, c.loop-c-test.true)) c.copy_from_slice-in-loop-c.new.self (c.copy_from_slice-in-loop-c.ensures.after ∙ rw is.0 at word)),
    )
