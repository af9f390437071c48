-- Each promise of this crate allows one outcome. Assumes nothing.
use Prim.Native.Nat.{ℕ}
use mathlib.Core.Path.{◌≡◌, sym, ◌∙◌}
use mathlib.Core.List.{List}
use Rattle.answer.specs.Outcome.{Answer, Done}
use Rattle.answer.proofs.Determined.{step_once}
use Rattle.answer.proofs.Promised.{answer_once, answer_determined}
use Rattle.packbits.specs.Rows.{RowMeasured, RowUnpacked, RowsChecked}
use Rattle.packbits.specs.Plans.{PlanWritten, RowPacked}

pub row_used_determined : (packed : List ℕ) (n : ℕ) (a b : Answer ℕ) → RowMeasured packed n a → RowMeasured packed n b → a ≡ b
row_used_determined packed n a b p q = answer_once a b (p ∙ sym q)

pub check_rows_determined : (packed : List ℕ) (rows n : ℕ) (a b : Done) → RowsChecked packed rows n a → RowsChecked packed rows n b → a ≡ b
check_rows_determined packed rows n = step_once

pub unpack_row_determined : (packed old : List ℕ) (a b : Answer ℕ) (x y : List ℕ) → RowUnpacked packed old a x → RowUnpacked packed old b y → (a ≡ b) × (x ≡ y)
unpack_row_determined packed old = answer_determined

pub write_plan_determined : (row kinds lengths old : List ℕ) (a b : Answer ℕ) (x y : List ℕ) → PlanWritten row kinds lengths old a x → PlanWritten row kinds lengths old b y → (a ≡ b) × (x ≡ y)
write_plan_determined row kinds lengths old = answer_determined

pub pack_row_determined : (row old : List ℕ) (a b : Answer ℕ) (x y : List ℕ) → RowPacked row old a x → RowPacked row old b y → (a ≡ b) × (x ≡ y)
pack_row_determined row old = answer_determined
