-- `packets::nothing` meets its contract. Assumes nothing.
use mathlib.Core.Path.{refl}
use Rattle.packets.specs.Promises.{nowhere, no_tail, no_sums}
use Rattle.packets.proofs.nothing.Goals as goal

pub returns : goal.returns
unfolding nowhere no_tail no_sums
returns c =
    refl
