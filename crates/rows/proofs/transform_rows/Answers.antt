-- `rows::transform_rows` meets its promise: it refuses as the check does, and past it writes the strip. Assumes nothing.
use Rattle.std.proofs.Common.{List, length, arith}
use borrow.Author.Tests.{not-false}
use Rattle.answer.specs.Outcome.{Fault, Sound}
use Rattle.answer.proofs.Promised.{passed, finishes, sound-here}
use Rattle.words.specs.Word.{Bytes}
use Rattle.samples.specs.Promises.{convert_faults}
use Rattle.samples.proofs.Strips.{good_checked, bytes-words}
use Rattle.rows.specs.Row.{StripServed}
use Rattle.rows.proofs.Rows.{strip-served}
use Rattle.rows.proofs.Leading.{unpredicted}
use Rattle.rows.proofs.transform_rows.Goals.{In_ok-checked}
use Rattle.rows.proofs.transform_rows.Goals as goal

-- the check found no fault
sound : (c : In_ok-checked) → let faults : List Fault = let args = c.args in convert_faults args.raw.now args.strip args.out.now in Sound (faults)
sound c =
    let faults : List Fault = let args = c.args in convert_faults args.raw.now args.strip args.out.now in
    passed faults c.checked.result c.checked.ensures c.in_ok-checked.was

served_here : (c : In_ok-checked) → let args = c.args in StripServed args.raw.now args.strip args.out.now
served_here c =
    strip-served _ _ _ (sound c)

pub every_row-requires : goal.every_row-requires
every_row-requires c =
    served_here (goal.at.every_row-requires c).In_ok-checked

pub returns-else-predict : goal.returns-else-predict
returns-else-predict c =
    let bytes : Bytes c.args.raw.now = λ i. omega (arith, c.type_inv.raw i) in
    let faults : List Fault = let args = c.args in convert_faults args.raw.now args.strip args.out.now in
    let args = c.args in
    let g = args.strip in
    let fits = served_here (goal.at.returns-else-predict c).In_ok-checked in
    rw c.if-predict.false
    (finishes faults tt (length args.raw.now) _ _ _ (sound (goal.at.returns-else-predict c).In_ok-checked)
    (unpredicted args.raw.now bytes g args.le args.out_le args.forward args.out.now c.reorder.result _ (not-false _ (sound-here fits.sound)) (bytes-words _ g (good_checked _ g fits.sound)) fits.room c.reorder.ensures))
