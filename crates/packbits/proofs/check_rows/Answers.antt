-- `packbits::check_rows` meets its promise: the first row that has a fault decides, then what is left over. Assumes nothing.
use native.Mathlib.Omega.{arith}
use Prim.Native.Nat.{ℕ, ◌+◌}
use mathlib.Core.Path.{◌≡◌, refl, ◌∙◌}
use mathlib.Core.List.{List}
use lib.ListN.{drop}
use Rattle.answer.specs.Outcome.{Sound, outcome}
use Rattle.answer.proofs.Promised.{refusing}
use Rattle.answer.proofs.Handed.{handed_outcome}
use Rattle.packbits.specs.Rows.{row_faults, rows_faults, used, RowMeasured}
use Rattle.packbits.proofs.Packets.{RowsLooked, rows-first, rows_on, rows_end, rows_turned, rest_of}
use Rattle.laws.proofs.Faults.{answered, declined}
use Rattle.packbits.proofs.check_rows.Goals.{After-row_used, In_ok-n}
use Rattle.packbits.proofs.check_rows.Goals as goal

-- the next row, over the rest of the input
measured : (c : After-row_used) → let rest : List ℕ = drop c.loop-k.at c.args.packed.now in RowMeasured rest c.args.row_bytes c.row_used.result
measured c =
    rw (rest_of c.args.packed.now c.loop-k.at) at c.row_used.ensures

done : (c : In_ok-n) → let rest : List ℕ = drop c.loop-k.at c.args.packed.now in let n = c.args.row_bytes in (c.in_ok-n.n ≡ used rest n) × Sound (row_faults rest n)
done c =
    let rest : List ℕ = drop c.loop-k.at c.args.packed.now in
    let n = c.args.row_bytes in
    let measured : RowMeasured rest n c.row_used.result = rw (rest_of c.args.packed.now c.loop-k.at) at c.row_used.ensures in
    answered outcome (row_faults rest n) (used rest n) measured c.in_ok-n.was refl

next : (c : In_ok-n) → RowsLooked c.args.packed.now c.turns-k-end.result c.args.row_bytes (c.loop-k.at + c.in_ok-n.n) (c.loop-k._k + 1)
next c =
    let row = done c in rw row.0 (rows_on c.loop-k.invariant c.loop-k-test.true row.1)

pub returns-in_err-n : goal.returns-in_err-n
returns-in_err-n c =
    let rest : List ℕ = drop c.loop-k.at c.args.packed.now in
    let args = c.args in
    record {
      passed = handed_outcome _ _ c.from_residual.ensures ∙ refusing (rows_faults args.packed.now args.rows args.row_bytes) tt (rw (rows_turned args.packed.now args.rows args.row_bytes c.turns-k-end.ensures) at (rows-first c.loop-k.invariant c.loop-k-test.true (declined outcome (row_faults rest args.row_bytes) (used rest args.row_bytes) (measured (goal.at.returns-in_err-n c).After-row_used) c.in_err-n.was refl)));
    }

pub overflow_add-at : goal.overflow_add-at
overflow_add-at c =
    omega (arith, (next (goal.at.overflow_add-at c).In_ok-n).inside)

pub loop-k-preserved : goal.loop-k-preserved
loop-k-preserved c =
    next (goal.at.loop-k-preserved c).In_ok-n

pub returns : goal.returns
returns c =
    let args = c.args in
    rw (rows_turned args.packed.now args.rows args.row_bytes c.turns-k-end.ensures) at (rows_end c.loop-k.invariant (omega (arith, c.loop-k-test.false)) c.fault.ensures)
