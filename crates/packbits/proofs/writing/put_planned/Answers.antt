-- `packbits::writing::put_planned` meets its contract: a literal, or a repeat in two bytes. Assumes nothing.
use native.Mathlib.Omega.{arith}
use lib.ListN.{drop, length-drop}
use Rattle.packbits.proofs.Planning.{Kept, kept-is}
use Rattle.packbits.proofs.Putting.{repeat_put}
use Rattle.packbits.proofs.writing.put_planned.Goals.{Start}
use Rattle.packbits.proofs.writing.put_planned.Goals as goal

fit : (c : Start) → let args = c.args in Kept (drop args.at args.row.now) (record { kind = args.kind; bytes = args.bytes })
fit c =
    kept-is _ _ c.requires.keeps_rules

pub overflow_cast-out : goal.overflow_cast-out
overflow_cast-out c =
    omega (arith, fit (goal.at.overflow_cast-out c).Start, ((fit (goal.at.overflow_cast-out c).Start).repeats c.if-kind-eq0.false).1.0)

pub bounds-row-at : goal.bounds-row-at
bounds-row-at c =
    omega (arith, fit (goal.at.bounds-row-at c).Start, c.requires.inside, length-drop c.args.at c.args.row.now)

pub returns-else-kind-eq0 : goal.returns-else-kind-eq0
returns-else-kind-eq0 c =
    let args = c.args in repeat_put args.row.now args.out.now args.at args.to (record { kind = args.kind; bytes = args.bytes }) c.if-kind-eq0.false c.requires
