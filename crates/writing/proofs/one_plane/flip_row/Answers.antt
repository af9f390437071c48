-- `writing::one_plane::flip_row` meets its contract: the laws are in proofs/Plain.antt. Assumes nothing.
use native.Mathlib.Omega.{arith}
use Rattle.writing.proofs.Plain.{over_none, over_colours}
use Rattle.writing.proofs.one_plane.flip_row.Goals as goal

pub returns-else-l-eq0 : goal.returns-else-l-eq0
returns-else-l-eq0 c =
    over_colours c.args.l c.args.s.now c.if-l.true (λ z. omega (arith, c.if-l-eq0.false)) c.requires c.straighten_row.result _ c.straighten_row.ensures

pub returns-else-l : goal.returns-else-l
returns-else-l c =
    let args = c.args in over_none args.l args.s.now c.if-l.false
