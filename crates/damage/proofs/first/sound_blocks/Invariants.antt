-- `damage::first::sound_blocks` meets its contract: all that was passed is sound. Assumes nothing.
use Prim.Native.Nat.{◌-◌, ◌≤◌}
use lib.ListN.{length}
use Rattle.damage.specs.Passes.{SoundTo}
use Rattle.damage.proofs.first.sound_blocks.Given as goal

abbrev pub invariant-loop-at : goal.invariant-loop-at
invariant-loop-at l = SoundTo l.damage l.at × (l.at ≤ length l.damage)

abbrev pub decreases-loop-at : goal.decreases-loop-at
decreases-loop-at l = length l.damage - l.at
