-- `damage::marks` meets its promise: the strip check's faults first, then the room; then the marks, which are exact. Assumes nothing.
use borrow.Author.Tests.{lt-ltb, le-ltb}
use native.Mathlib.Omega.{arith}
use mathlib.Core.List.{List}
use Prim.Native.Nat.{ℕ}
use lib.ListN.{length}
use Rattle.answer.specs.Outcome.{here, next, none, Sound}
use Rattle.answer.proofs.Handed.{handed}
use Rattle.answer.proofs.Promised.{passed, stopped, refuses, first_more, sound_then, sound_more}
use Rattle.samples.specs.declared.Strip.{Strip}
use Rattle.samples.specs.Promises.{strip_faults}
use Rattle.damage.specs.Promises.{samples_of, mark_faults}
use Rattle.damage.proofs.Promised.{front_fits, exactly, marks-done}
use Rattle.damage.proofs.marks.Goals.{In_ok-check_strip}
use Rattle.damage.proofs.marks.Goals as goal

-- the check found no fault
checked : (c : In_ok-check_strip) → let given : List ℕ = c.args.damage.now in let geometry : Strip = c.args.strip in Sound (strip_faults (length given) geometry)
checked c =
    let given : List ℕ = c.args.damage.now in
    let geometry : Strip = c.args.strip in
    passed (strip_faults (length given) geometry) c.check_strip.result c.check_strip.ensures c.in_ok-check_strip.was

pub returns-then-marks-samples : goal.returns-then-marks-samples
returns-then-marks-samples c =
    let given : List ℕ = c.args.damage.now in
    let geometry : Strip = c.args.strip in
    let buffer : List ℕ = c.args.marks.now in
    exactly given geometry c.args.predict buffer _ _
    (refuses (mark_faults given geometry buffer) _ _ _ (sound_then (checked (goal.at.returns-then-marks-samples c).In_ok-check_strip) (here (lt-ltb (length buffer) (samples_of given geometry) (omega (arith, c.if-marks-samples.true))))))

pub mark_strip-count-requires : goal.mark_strip-count-requires
mark_strip-count-requires c =
    let given : List ℕ = c.args.damage.now in
    let geometry : Strip = c.args.strip in
    let buffer : List ℕ = c.args.marks.now in
    front_fits given geometry buffer (checked (goal.at.mark_strip-count-requires c).In_ok-check_strip) (omega (arith, c.if-marks-samples.false))

pub returns-in_err-check_strip : goal.returns-in_err-check_strip
returns-in_err-check_strip c =
    let given : List ℕ = c.args.damage.now in
    let geometry : Strip = c.args.strip in
    let buffer : List ℕ = c.args.marks.now in
    rw (handed c.from_residual.result _ c.from_residual.ensures)
    (exactly given geometry c.args.predict buffer _ _
    (refuses (mark_faults given geometry buffer) _ _ _ (first_more _ (stopped (strip_faults (length given) geometry) c.check_strip.result _ c.check_strip.ensures c.in_err-check_strip.was))))

pub returns : goal.returns
returns c =
    let given : List ℕ = c.args.damage.now in
    let geometry : Strip = c.args.strip in
    let buffer : List ℕ = c.args.marks.now in
    marks-done given geometry c.args.predict buffer _ _
    (sound_more (checked (goal.at.returns c).In_ok-check_strip) (next (le-ltb (length buffer) (samples_of given geometry) (omega (arith, c.if-marks-samples.false))) none))
    (omega (arith, c.if-marks-samples.false))
    c.mark_strip-count.ensures
