-- `entries::walk::check_header` meets its contract: page, length, byte order, 42, in this order. Assumes nothing.
use Rattle.answer.proofs.Promised.{refusing, step-on}
use Rattle.answer.proofs.Handed.{step-handed}
use Rattle.answer.specs.declared.Refusal.TheVariants.{Invalid}
use Rattle.answer.specs.Outcome.{Fault, Step, Done, fault_of, here, later}
use Rattle.entries.specs.Entries.{header_faults, last_page, short, little, II, MM}
use borrow.Author.Tests.{le-ltb, lt-ltb}
use lib.ListN.{length}
use mathlib.Core.List.{List}
use native.Mathlib.Omega.{arith}
use Rattle.std.proofs.Common.{ℕ, ◌≤◌, true, not, ◌||◌, [], ◌∷◌, eqb}
use Rattle.entries.proofs.walk.check_header.Goals as goal

pub returns-then-page-gt-LAST_PAGE : goal.returns-then-page-gt-LAST_PAGE
unfolding header_faults
returns-then-page-gt-LAST_PAGE c =
    let faults : List Fault = header_faults c.args.file.now c.args.page in
    record { passed = refusing faults tt (here (lt-ltb last_page c.args.page c.if-page-gt-LAST_PAGE.true)) }

pub returns-then-file-lt8 : goal.returns-then-file-lt8
unfolding header_faults
returns-then-file-lt8 c =
    let faults : List Fault = header_faults c.args.file.now c.args.page in
    record { passed = refusing faults tt (later (le-ltb last_page c.args.page c.if-page-gt-LAST_PAGE.false) (here (lt-ltb (length c.args.file.now) 8 c.if-file-lt8.true))) }

-- past the page and the length, the two tests of the first bytes
tested : (file : List ℕ) (page : ℕ) {r : Done} → page ≤ last_page → 8 ≤ length file → Step (fault_of (not (eqb (short file true 0) II || eqb (short file true 0) MM)) Invalid ∷ fault_of (not (eqb (short file (little file) 2) 42)) Invalid ∷ []) r → Step (header_faults file page) r
unfolding header_faults
tested file page few long s =
    record { passed = rw (le-ltb last_page page few, le-ltb (length file) 8 long) s.passed }

pub returns-in_err-fault : goal.returns-in_err-fault
returns-in_err-fault c =
    tested c.args.file.now c.args.page c.if-page-gt-LAST_PAGE.false (omega (arith, c.if-file-lt8.false)) (step-handed _ (rw c.short-mark.ensures at c.fault.ensures) c.in_err-fault.was c.from_residual.ensures)

pub returns : goal.returns
returns c =
    tested c.args.file.now c.args.page c.if-page-gt-LAST_PAGE.false (omega (arith, c.if-file-lt8.false)) (step-on (rw c.short-mark.ensures at c.fault.ensures) c.in_ok-fault.was (rw (c.short-version.ensures, c.short-mark.ensures) at c.fault-2.ensures))
