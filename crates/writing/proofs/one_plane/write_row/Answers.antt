-- `writing::one_plane::write_row` meets its contract: the laws are in proofs/Rowwise.antt. Assumes nothing.
use native.Mathlib.Omega.{arith}
use Rattle.writing.proofs.Rowwise.{row-packed, plain_fits}
use Rattle.writing.proofs.one_plane.write_row.Goals as goal

pub plain_row-requires : goal.plain_row-requires
plain_row-requires c =
    plain_fits c.requires c.if-l-eq8.false

pub returns-then-l-eq8 : goal.returns-then-l-eq8
returns-then-l-eq8 c =
    row-packed c.requires (omega (arith, c.if-l-eq8.true)) c.bit_row.result _ c.bit_row.ensures
