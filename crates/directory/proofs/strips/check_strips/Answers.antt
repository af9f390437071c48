-- `directory::strips::check_strips` meets its contract: the first strip that has a fault decides. Assumes nothing.
use Rattle.std.proofs.Common.{◌∙◌}
use Rattle.answer.proofs.Handed.{handed_outcome}
use Rattle.answer.proofs.Promised.{finishing, refusing, step-first, step-sound}
use Rattle.answer.specs.Outcome.{none}
use Rattle.directory.proofs.Turning.{turn_on}
use Rattle.directory.specs.Page.{strip_faults}
use Rattle.laws.proofs.Turns.{turn_first, turns_more}
use Rattle.laws.specs.Turns.{faults_below}
use Rattle.tags.specs.Tags.{strips_per_plane}
use mathlib.Core.Path.{◌≡◌, sym}
use native.Mathlib.Omega.{arith}
use native.Mathlib.Nat.{zero-mod}
use Rattle.directory.proofs.strips.check_strips.Goals as goal

pub loop-k-init : goal.loop-k-init
loop-k-init c =
    (sym (zero-mod _), none)

pub returns-in_err-check_turn : goal.returns-in_err-check_turn
returns-in_err-check_turn c =
    let args = c.args in
    let f = strip_faults args.file.now args.s in
    record { passed = handed_outcome _ _ c.from_residual.ensures ∙ refusing (faults_below args.s.offsets.count f) tt (turn_first args.s.offsets.count f c.loop-k.k c.loop-k-test.true c.loop-k.invariant.1 (step-first c.check_turn.ensures c.in_err-check_turn.was)) }

pub loop-k-preserved : goal.loop-k-preserved
loop-k-preserved c =
    let args = c.args in
    let s = args.s in
    let k = c.loop-k.k in (
      rw (c.next_turn-turn.ensures, c.strips_per_plane-per.ensures) (turn_on k (strips_per_plane s.rows s.each) _ c.loop-k.invariant.0),
      turns_more k (strip_faults args.file.now s) c.loop-k.invariant.1 (step-sound c.check_turn.ensures c.in_ok-check_turn.was),
    )

pub returns : goal.returns
returns c =
    let args = c.args in
    let end : c.loop-k.k ≡ args.s.offsets.count = omega (arith, c.loop-k-test.false) in
    record { passed = finishing (faults_below args.s.offsets.count (strip_faults args.file.now args.s)) tt (rw end at c.loop-k.invariant.1) }
