-- `directory::one_strip` meets its contract: the number, then the strip's own faults. Assumes nothing.
use Rattle.std.proofs.Common.{ap, ◌∙◌}
use Rattle.answer.proofs.Handed.{handed}
use Rattle.answer.proofs.Promised.{finishing, refusing, step-first, step-sound}
use Rattle.answer.specs.Outcome.{Fault, later, next}
use Rattle.directory.specs.Page.{one_faults, place_outcome}
use borrow.Author.Tests.{lt-leb}
use lib.Dec.{leb}
use mathlib.Core.Bool.{false}
use mathlib.Core.List.{List}
use mathlib.Core.Path.{◌≡◌}
use native.Mathlib.Omega.{arith}
use Rattle.directory.proofs.one_strip.Goals.{Else-count_of-k}
use Rattle.directory.proofs.one_strip.Goals as goal

there : (c : Else-count_of-k) → leb c.args.s.offsets.count c.args.k ≡ false
there c =
    lt-leb c.args.s.offsets.count c.args.k (omega (arith, c.count_of.ensures, c.if-count_of-k.false))

pub returns-in_err-check_strip : goal.returns-in_err-check_strip
returns-in_err-check_strip c =
    let faults : List Fault = one_faults c.args.file.now c.args.s c.args.k in
    ap place_outcome (handed _ _ c.from_residual.ensures) ∙ refusing faults _ (later (there (goal.at.returns-in_err-check_strip c).Else-count_of-k) (step-first c.check_strip.ensures c.in_err-check_strip.was))

pub returns : goal.returns
returns c =
    let faults : List Fault = one_faults c.args.file.now c.args.s c.args.k in
    rw (c.place_of-at.ensures, c.length_of-bytes.ensures) (finishing faults _ (next (there (goal.at.returns c).Else-count_of-k) (step-sound c.check_strip.ensures c.in_ok-check_strip.was)))
