-- `slots::palette_row` meets its promise: the check's faults, then each column painted. Assumes nothing.
use mathlib.Core.List.{List}
use native.Mathlib.Omega.{arith}
use lib.ListN.{length}
use Rattle.answer.specs.Outcome.{Fault, Sound}
use Rattle.answer.proofs.Promised.{finishes, step-sound}
use Rattle.words.specs.Word.{Bytes}
use Rattle.slots.specs.Rows.{palette_at, palette_faults}
use Rattle.slots.proofs.Painting.{palette_filled}
use Rattle.slots.proofs.palette_row.Goals as goal

pub returns : goal.returns
returns c =
    let faults : List Fault = let args = c.args in palette_faults (length args.file.now) args.map args.slots (length args.raw.now) (length args.out.now) in
    let sound : Sound faults = step-sound {fs = faults} c.check_palette.ensures c.in_ok-check_palette.was in
    let args = c.args in
    let bytes : Bytes args.file.now = λ i. omega (arith, c.type_inv.file i) in
    finishes faults tt (length args.out.now) (palette_at args.file.now args.map args.slots args.le args.raw.now) args.out.now _ sound
    (palette_filled args.file.now args.map args.slots args.le args.raw.now args.out.now _ bytes (rw c.high.ensures at c.paint_row.ensures))
