-- `files::write_file` meets its promise: it refuses as the check does, then for planes or room, and past that writes the file. Assumes nothing.
use borrow.Author.Tests.{lt-ltb, le-ltb}
use native.Mathlib.Omega.{arith}
use Prim.Native.Nat.{◌≤◌}
use mathlib.Core.Path.{◌≡◌, ap}
use mathlib.Core.List.{List}
use lib.ListN.{length}
use Rattle.answer.specs.Outcome.{Fault, Sound, here, later, next, none}
use Rattle.answer.proofs.Handed.{handed}
use Rattle.answer.proofs.Promised.{refuses, first_more, sound_then, sound_more, step-first, step-sound}
use Rattle.files.specs.declared.plan.Plan.{Plan}
use Rattle.files.specs.File.{asked_faults, write_faults, file_length}
use Rattle.files.specs.Parts.{Asked, plan_of}
use Rattle.files.proofs.Asking.{asked}
use Rattle.files.proofs.Filing.{ready, file_written}
use Rattle.files.proofs.write_file.Goals.{After-plan_of-p, In_ok-check_asked}
use Rattle.files.proofs.write_file.Goals as goal

-- what was asked for has no fault
sound : (c : In_ok-check_asked) → let args = c.args in Sound (asked_faults args.l args.rows_per_strip)
sound c =
    step-sound c.check_asked.ensures c.in_ok-check_asked.was

fit : (c : In_ok-check_asked) → let args = c.args in Asked args.l args.rows_per_strip
fit c =
    asked _ _ (sound c)

-- the plan's length is the file's
length_is : (c : After-plan_of-p) → let args = c.args in c.plan_of-p.result.length ≡ file_length args.l.fields args.rows_per_strip
unfolding plan_of
length_is c =
    ap (λ (p : Plan). p.length) c.plan_of-p.ensures

pub returns-then-planes-l : goal.returns-then-planes-l
returns-then-planes-l c =
    let faults : List Fault = let args = c.args in write_faults args.l args.rows_per_strip args.planes.now args.out.now in
    let args = c.args in
    refuses faults _ _ _ (sound_then (sound (goal.at.returns-then-planes-l c).In_ok-check_asked) (here (lt-ltb (length args.planes.now) args.l.scratch_len (omega (arith, c.if-planes-l.true)))))

pub plan_of-p-requires : goal.plan_of-p-requires
plan_of-p-requires c =
    fit (goal.at.plan_of-p-requires c).In_ok-check_asked

pub returns-then-out-p : goal.returns-then-out-p
unfolding plan_of
returns-then-out-p c =
    let faults : List Fault = let args = c.args in write_faults args.l args.rows_per_strip args.planes.now args.out.now in
    let args = c.args in
    refuses faults _ _ _ (sound_then (sound (goal.at.returns-then-out-p c).In_ok-check_asked) (later (le-ltb (length args.planes.now) args.l.scratch_len (omega (arith, c.if-planes-l.false))) (here (lt-ltb (length args.out.now) (file_length args.l.fields args.rows_per_strip) (omega (arith, c.if-out-p.true, length_is (goal.at.returns-then-out-p c).After-plan_of-p))))))

pub put_file-requires : goal.put_file-requires
put_file-requires c =
    ready _ _ _ _ _ (fit (goal.at.put_file-requires c).In_ok-check_asked) c.plan_of-p.ensures (omega (arith, c.if-planes-l.false)) (omega (arith, c.if-out-p.false))

pub returns-in_err-check_asked : goal.returns-in_err-check_asked
returns-in_err-check_asked c =
    let faults : List Fault = let args = c.args in write_faults args.l args.rows_per_strip args.planes.now args.out.now in
    rw (handed _ _ c.from_residual.ensures) (refuses faults _ _ _ (first_more _ (step-first c.check_asked.ensures c.in_err-check_asked.was)))

pub returns : goal.returns
unfolding plan_of
returns c =
    let args = c.args in
    let planes = args.planes.now in
    let out = args.out.now in
    let all : args.l.scratch_len ≤ length planes = omega (arith, c.if-planes-l.false) in
    file_written args.l args.rows_per_strip _ planes out _ (fit (goal.at.returns c).In_ok-check_asked) c.plan_of-p.ensures all
    (sound_more (sound (goal.at.returns c).In_ok-check_asked) (next (le-ltb (length planes) args.l.scratch_len all) (next (le-ltb (length out) (file_length args.l.fields args.rows_per_strip) (omega (arith, c.if-out-p.false, length_is (goal.at.returns c).After-plan_of-p))) none)))
    c.put_file.ensures
