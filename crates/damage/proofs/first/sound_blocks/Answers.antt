-- `damage::first::sound_blocks` meets its contract: all that was passed is sound. Assumes nothing.
use native.Mathlib.Omega.{arith}
use Rattle.damage.proofs.Begins.{sound-on}
use Rattle.damage.proofs.first.sound_blocks.Goals as goal

pub loop-at-preserved : goal.loop-at-preserved
loop-at-preserved c =
    let block = c.block_end-end.ensures in
    (sound-on _ _ _ (omega (arith, block.on)) block.inside c.loop-at.invariant.0 (c.sound.ensures (c.if-not-sound.false)), block.inside)
