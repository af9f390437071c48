-- A constant table is right at each entry if one computed test of all of them is. Assumes nothing.
use Prim.Native.Nat.{ℕ}
use mathlib.Core.Path.{◌≡◌}
use mathlib.Core.Bool.{true}
use mathlib.Core.List.{List}
use lib.Dec.{eqb}
use lib.ListN.{get_or}
use borrow.Author.Tests.{eqb-true}
use Rattle.laws.specs.Turns.{every}
use Rattle.laws.specs.Tabled.{Tabled}
use Rattle.laws.proofs.Turns.{every_one}

pub tabled : {n : ℕ} {f : ℕ → ℕ} {l : List ℕ} → every n (λ k. eqb (get_or l k 0) (f k)) ≡ true → Tabled n f l
tabled {n} {f} {l} e = record { right = λ k h. eqb-true _ _ (every_one n (λ k. eqb (get_or l k 0) (f k)) e k h) }
