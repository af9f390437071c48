-- `swaps::swap_groups` meets its contract: a group a turn, in the order of proofs/Swapping.antt. Assumes nothing.
use Prim.Native.Nat.{◌*◌}
use mathlib.Core.Path.{◌≡◌}
use Rattle.swaps.proofs.Swapping.{Swapping}
use Rattle.swaps.proofs.swap_groups.Given as goal

abbrev pub invariant-loop-n : goal.invariant-loop-n
invariant-loop-n l = (l.at ≡ l.n * l.width) × Swapping l.raw l.width l.initial.out l.at l.out
