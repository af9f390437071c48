-- `writing::planar::channel_of` meets its contract: the invariant and its laws are in proofs/Channels.antt. Assumes nothing.
use native.Mathlib.Omega.{arith}
use Rattle.laws.proofs.Groups.{turn_next}
use mathlib.Core.Path.{◌∙◌}
use Rattle.pixels.proofs.HighFirst.{word_read}
use Rattle.writing.proofs.Channels.{taken_next}
use Rattle.writing.proofs.planar.channel_of.Goals as goal

pub loop-p-preserved : goal.loop-p-preserved
loop-p-preserved g c =
    let is = c.loop-p.invariant in
    let word = word_read _ _ _ c.args.le c.copy_from_slice.new.self c.word-word.result c.requires.1 c.copy_from_slice.ensures.after c.word-word.ensures in (
      omega (arith, is.0, turn_next c.loop-p.p c.args.stride),
      omega (arith, is.1, turn_next c.loop-p.p g.row.BYTES),
      rw is.1 (taken_next c.requires.0 is.2 (omega (arith, c.loop-p-test.true)) c.copy_from_slice-in-loop-p.new.self (c.copy_from_slice-in-loop-p.ensures.after ∙ rw is.0 at word)),
    )
