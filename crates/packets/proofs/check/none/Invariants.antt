-- `packets::check::none` meets its contract: the bits so far are none exactly if the numbers so far are all 0. Assumes nothing.
use mathlib.Core.Path.{◌≡◌}
use Prim.Native.Nat.{◌≤◌}
use lib.Dec.{eqb}
use lib.ListN.{length, get_or}
use Rattle.laws.specs.Turns.{every}
use Rattle.packets.proofs.check.none.Given as goal

abbrev pub invariant-loop-number : goal.invariant-loop-number
invariant-loop-number l = (l.number-index ≤ length l.s) × (eqb l.any 0 ≡ every l.number-index (λ k. eqb (get_or l.s k 0) 0))
