-- `directory::place_strips` meets its contract: the strips' faults, then the buffer's. Assumes nothing.
use Prim.Native.Nat.{◌*◌}
use Rattle.answer.proofs.Handed.{handed}
use Rattle.answer.proofs.Promised.{finishes, first_more, refuses, sound_more, sound_then, step-first, step-sound}
use Rattle.answer.specs.Outcome.{Fault, Sound, here, next, none}
use Rattle.directory.specs.Page.{part_number, parts_faults, strips_faults}
use borrow.Author.Tests.{le-ltb, lt-ltb}
use lib.ListN.{length}
use mathlib.Core.List.{List}
use native.Mathlib.Omega.{arith}
use Rattle.directory.proofs.place_strips.Goals.{In_ok-check_strips}
use Rattle.directory.proofs.place_strips.Goals as goal

sound : (c : In_ok-check_strips) → Sound (strips_faults c.args.file.now c.args.s)
sound c =
    step-sound c.check_strips.ensures c.in_ok-check_strips.was

pub returns-then-parts-count_of : goal.returns-then-parts-count_of
returns-then-parts-count_of c =
    let faults : List Fault = parts_faults c.args.file.now c.args.s c.args.parts.now in
    refuses faults tt _ _ (sound_then (sound (goal.at.returns-then-parts-count_of c).In_ok-check_strips) (here (lt-ltb (length c.args.parts.now) (2 * c.args.s.offsets.count) (omega (arith, c.count_of.ensures, c.if-parts-count_of.true)))))

pub returns-in_err-check_strips : goal.returns-in_err-check_strips
returns-in_err-check_strips c =
    let faults : List Fault = parts_faults c.args.file.now c.args.s c.args.parts.now in
    rw (handed _ _ c.from_residual.ensures) (refuses faults tt _ _ (first_more _ (step-first c.check_strips.ensures c.in_err-check_strips.was)))

pub returns : goal.returns
returns c =
    let faults : List Fault = parts_faults c.args.file.now c.args.s c.args.parts.now in
    finishes faults tt (2 * c.args.s.offsets.count) (part_number c.args.file.now c.args.s) _ _ (sound_more (sound (goal.at.returns c).In_ok-check_strips) (next (le-ltb (length c.args.parts.now) (2 * c.args.s.offsets.count) (omega (arith, c.count_of.ensures, c.if-parts-count_of.false))) none)) c.fill_parts.ensures
