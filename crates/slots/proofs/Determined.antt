-- Each promise of this crate allows one outcome. Assumes nothing.
use mathlib.Core.Path.{◌≡◌}
use mathlib.Core.Bool.{Bool}
use mathlib.Core.List.{List}
use Prim.Native.Nat.{ℕ}
use Rattle.answer.proofs.Promised.{answer_determined}
use Rattle.answer.specs.Outcome.{Done}
use Rattle.slots.specs.Rows.{BilevelRow, PaletteRow, BitRow}

pub bilevel_row_determined : (raw : List ℕ) (white : Bool) (old : List ℕ) (a b : Done) (x y : List ℕ) → BilevelRow raw white old a x → BilevelRow raw white old b y → (a ≡ b) × (x ≡ y)
bilevel_row_determined raw white old = answer_determined

pub palette_row_determined : (file : List ℕ) (map slots : ℕ) (le : Bool) (raw old : List ℕ) (a b : Done) (x y : List ℕ) → PaletteRow file map slots le raw old a x → PaletteRow file map slots le raw old b y → (a ≡ b) × (x ≡ y)
palette_row_determined file map slots le raw old = answer_determined

pub bit_row_determined : (picture : List ℕ) (white : Bool) (old : List ℕ) (a b : Done) (x y : List ℕ) → BitRow picture white old a x → BitRow picture white old b y → (a ≡ b) × (x ≡ y)
bit_row_determined picture white old = answer_determined
