-- `packbits::plans::alike` meets its contract: so far all bytes are the first. Assumes nothing.
use Prim.Native.Nat.{ℕ}
use mathlib.Core.Path.{◌≡◌}
use mathlib.Core.Bool.{Bool}
use mathlib.Core.List.{List}
use lib.ListN.{get_or}
use lib.Dec.{eqb}
use Rattle.laws.specs.Turns.{every}
use Rattle.packbits.proofs.plans.alike.Given as goal

abbrev same_as_first : List ℕ → ℕ → Bool
same_as_first part k = eqb (get_or part k 0) (get_or part 0 0)

abbrev pub invariant-loop-b : goal.invariant-loop-b
invariant-loop-b l = l.same ≡ every l.b-index (same_as_first l.part)
