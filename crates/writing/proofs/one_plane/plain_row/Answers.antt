-- `writing::one_plane::plain_row` meets its contract: the laws are in proofs/Plain.antt. Assumes nothing.
use native.Mathlib.Omega.{arith}
use Rattle.words.specs.Word.{Bytes}
use Rattle.writing.proofs.Plain.{plain_done}
use Rattle.writing.proofs.one_plane.plain_row.Goals as goal

pub returns : goal.returns
returns c =
    let bytes : Bytes c.args.row.now = λ i. omega (arith, c.type_inv.row i) in
    plain_done c.requires bytes c.reorder.result _ c.reorder.ensures _ c.flip_row.ensures
