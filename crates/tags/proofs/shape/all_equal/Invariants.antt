-- `tags::shape::all_equal` meets its contract: each value is held against the first. Assumes nothing.
use Prim.Native.Nat.{ℕ}
use Rattle.entries.specs.Entries.{value_of}
use Rattle.entries.specs.declared.Field.{Field}
use Rattle.laws.specs.Turns.{every}
use lib.Dec.{eqb}
use mathlib.Core.Bool.{Bool}
use mathlib.Core.List.{List}
use mathlib.Core.Path.{◌≡◌}
use Rattle.std.proofs.Common.{true}
use Rattle.tags.proofs.shape.all_equal.Given as goal

abbrev pub same_as_first : List ℕ → Bool → Field → ℕ → Bool
same_as_first file le bits j = eqb (value_of file le bits j) (value_of file le bits 0)

abbrev pub invariant-loop-j : goal.invariant-loop-j
invariant-loop-j l = every l.j (same_as_first l.file l.le l.bits) ≡ true
