-- `damage::first::first_damaged` meets its contract: all that was passed is sound. Assumes nothing.
use Prim.Native.Nat.{◌≤◌}
use lib.ListN.{length}
use Rattle.damage.specs.Passes.{SoundTo}
use Rattle.damage.proofs.first.first_damaged.Given as goal

abbrev pub invariant-loop-at : goal.invariant-loop-at
invariant-loop-at l = SoundTo l.damage l.at × (l.at ≤ length l.damage)
