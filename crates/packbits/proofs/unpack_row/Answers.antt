-- `packbits::unpack_row` meets its promise: it refuses as the look at the headers does, and past that the row is filled. Assumes nothing.
use mathlib.Core.Path.{◌≡◌, refl}
use lib.ListN.{length}
use Rattle.answer.specs.Outcome.{Sound, outcome}
use Rattle.packbits.specs.Rows.{row_faults, used}
use Rattle.laws.proofs.Faults.{answered}
use Rattle.packbits.proofs.unpack_row.Goals as goal

pub fill_row-requires : goal.fill_row-requires
fill_row-requires c =
    let done : let args = c.args in let n = length args.row.now in (c.in_ok-n.n ≡ used args.packed.now n) × Sound (row_faults args.packed.now n) = let packed = c.args.packed.now in
    let n = length c.args.row.now in answered outcome (row_faults packed n) (used packed n) c.row_used.ensures c.in_ok-n.was refl in
    done.1
