-- `packbits::plans::kept` meets its contract: the packet passes the row's end, is a literal, or is a repeat. Assumes nothing.
use native.Mathlib.Omega.{arith}
use Rattle.packbits.proofs.Planning.{kept-short, kept-literal, kept-other}
use Rattle.packbits.proofs.plans.kept.Goals as goal

pub returns-then-row-at : goal.returns-then-row-at
returns-then-row-at c =
    let args = c.args in kept-short args.row.now args.at args.kind args.bytes c.if-row-at.true

pub returns-then-kind-eq0 : goal.returns-then-kind-eq0
returns-then-kind-eq0 c =
    let args = c.args in
    kept-literal args.row.now args.at args.kind args.bytes (omega (arith, c.if-row-at.false)) c.if-kind-eq0.true

pub returns : goal.returns
returns c =
    let args = c.args in
    kept-other args.row.now args.at args.kind args.bytes (omega (arith, c.if-row-at.false)) c.if-kind-eq0.false c.alike.ensures
