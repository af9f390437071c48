-- `rows::transform_row` meets its promise: it refuses as the check does, and past it writes the row. Assumes nothing.
use Rattle.std.proofs.Common.{List}
use Rattle.answer.specs.Outcome.{Fault, Sound}
use Rattle.answer.proofs.Promised.{passed}
use Rattle.samples.specs.Promises.{convert_faults}
use Rattle.rows.specs.Row.{one_row}
use Rattle.rows.proofs.Rows.{row-served, strip-served}
use Rattle.rows.proofs.transform_row.Goals as goal

pub transform_words-requires : goal.transform_words-requires
transform_words-requires c =
    let faults : List Fault = let args = c.args in convert_faults args.raw.now (one_row args.raw.now args.channels args.width) args.out.now in
    let sound : Sound faults = passed faults c.checked.result c.checked.ensures c.in_ok-checked.was in
    row-served _ _ _ _ (strip-served _ _ _ sound)
