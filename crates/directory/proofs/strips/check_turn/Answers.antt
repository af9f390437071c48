-- `directory::strips::check_turn` meets its contract: length, then room, then the rows of the part that is there. Assumes nothing.
use Prim.Native.Nat.{ℕ, ◌*◌, ◌+◌, ◌-◌}
use Rattle.answer.proofs.Promised.{step-on}
use Rattle.answer.proofs.Handed.{step-handed}
use Rattle.answer.specs.Outcome.{Step, pick, Done}
use Rattle.directory.specs.Page.{packed_faults, smaller, strip_faults, strip_length, strip_place, strip_rows}
use Rattle.directory.specs.declared.strips.Strips.{Strips}
use Rattle.packbits.specs.Rows.{rows_faults}
use lib.ListN.{drop, take}
use mathlib.Core.List.{List, []}
use mathlib.Core.Path.{◌∙◌, ◌≡◌, ap}
use native.Mathlib.Omega.{arith}
use Rattle.directory.proofs.strips.check_turn.Goals.{After-rows_at-rows}
use Rattle.directory.proofs.strips.check_turn.Goals as goal

-- the rows of that part
rows_there : (file : List ℕ) (s : Strips) (k at bytes rows : ℕ) {r : Done} → at ≡ strip_place file s k → bytes ≡ strip_length file s k → rows ≡ strip_rows s.rows s.each k → Step (pick s.packbits (rows_faults (take (at + bytes - at) (drop at file)) rows s.row) []) r → Step (pick s.packbits (packed_faults file s k) []) r
rows_there file s k at bytes rows at-is bytes-are rows_are step =
    let all : at + bytes - at ≡ bytes = omega arith in rw (all, at-is, bytes-are, rows_are) at step

rows_are : (c : After-rows_at-rows) → let args = c.args in c.rows_at-rows.result ≡ strip_rows args.s.rows args.s.each args.k
unfolding strip_rows
rows_are c =
    let s = c.args.s in c.rows_at-rows.ensures ∙ ap (λ (turn : ℕ). smaller s.each (s.rows - turn * s.each)) c.requires

pub returns-in_err-fault : goal.returns-in_err-fault
unfolding strip_faults strip_rows
returns-in_err-fault c =
    let are = rows_are (goal.at.returns-in_err-fault c).After-rows_at-rows in
    step-handed _ (rw (c.length_of-bytes.ensures, c.times-right.ensures, are) at c.fault.ensures) c.in_err-fault.was c.from_residual.ensures

pub returns-in_err-fault-2 : goal.returns-in_err-fault-2
unfolding strip_faults strip_rows
returns-in_err-fault-2 c =
    let are = rows_are (goal.at.returns-in_err-fault-2 c).After-rows_at-rows in
    step-on (rw (c.length_of-bytes.ensures, c.times-right.ensures, are) at c.fault.ensures) c.in_ok-fault.was (step-handed _ (rw (c.place_of-at.ensures, c.length_of-bytes.ensures) at c.fault-2.ensures) c.in_err-fault-2.was c.from_residual-in_err-fault-2.ensures)

pub returns : goal.returns
unfolding strip_faults strip_rows
returns c =
    let args = c.args in
    let are = rows_are (goal.at.returns c).After-rows_at-rows in
    let rows = rows_there args.file.now args.s args.k _ _ _ c.place_of-at.ensures c.length_of-bytes.ensures are c.check_packed.ensures in
    step-on (rw (c.length_of-bytes.ensures, c.times-right.ensures, are) at c.fault.ensures) c.in_ok-fault.was (step-on (rw (c.place_of-at.ensures, c.length_of-bytes.ensures) at c.fault-2.ensures) c.in_ok-fault-2.was rows)
