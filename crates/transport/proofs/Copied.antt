-- A copy that fills all of its buffer is the source. Assumes nothing.
use mathlib.Core.Path.{◌≡◌, ap, ◌∙◌}
use mathlib.Core.List.{List, ◌++◌, append-nil}
use Prim.Native.Nat.{ℕ}
use native.Mathlib.Omega.{arith}
use borrow.Author.Tests.{le-ltb}
use lib.ListN.{length, get_or, drop, drop_of_length-le}
use Rattle.answer.specs.Outcome.{next, none, Done}
use Rattle.answer.proofs.Filling.{table_self}
use Rattle.answer.proofs.Promised.{finished}
use Rattle.transport.specs.Moved.{Committed, commit_faults}

pub copied : (source old new : List ℕ) (a : Done) → Committed source old a new → length source ≡ length old → new ≡ source
copied source old new a p long =
    finished (commit_faults source old) tt (length source) (λ k. get_or source k 0) old new (next (le-ltb (length old) (length source) (omega arith)) none) p
    ∙ ap (λ (l : List ℕ). l ++ drop (length source) old) (table_self source)
    ∙ ap (λ (l : List ℕ). source ++ l) (drop_of_length-le old {i = length source} (omega arith))
    ∙ append-nil source
