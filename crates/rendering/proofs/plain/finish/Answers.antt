-- `rendering::plain::finish` meets its contract: the laws are in proofs/Finishing.antt. Assumes nothing.
use borrow.Author.Tests.{eq-eqb, ne_eqb}
use mathlib.Core.Path.{refl}
use mathlib.Core.Bool.{true, false}
use native.Mathlib.Omega.{arith}
use Rattle.rendering.proofs.Finishing.{straight_finished, same_finished}
use Rattle.rendering.proofs.plain.finish.Goals as goal

pub returns-then-l-eq1 : goal.returns-then-l-eq1
returns-then-l-eq1 c =
    straight_finished c.args.l c.args.out.now c.requires (ne_eqb c.args.l.fields.alpha 0 (omega (arith, c.if-l-eq1.true))) true _ (eq-eqb _ _ c.if-l-eq1.true) refl c.straighten_row.result _ c.straighten_row.ensures

pub returns-else-l-eq0 : goal.returns-else-l-eq0
returns-else-l-eq0 c =
    straight_finished c.args.l c.args.out.now c.requires (ne_eqb _ _ c.if-l-eq0.false) false true (ne_eqb _ _ c.if-l-eq1.false) c.if-l.true c.straighten_row-else-l-eq0.result _ c.straighten_row-else-l-eq0.ensures

pub returns-else-l : goal.returns-else-l
returns-else-l c =
    same_finished c.args.l c.args.out.now (ne_eqb _ _ c.if-l-eq1.false) c.if-l.false
