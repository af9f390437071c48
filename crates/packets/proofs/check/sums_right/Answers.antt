-- `packets::check::sums_right` meets its contract: the sums that are there, and then none. Assumes nothing.
use native.Mathlib.Omega.{arith}
use Rattle.packets.proofs.Checking.{sums-all, sums_none}
use Rattle.packets.proofs.check.sums_right.Goals as goal

pub returns-then-begun-few : goal.returns-then-begun-few
returns-then-begun-few c =
    let sums = c.args.sums.now in
    let width = c.args.width in
    let begun = c.args.begun in
    let long = c.requires.1.0 in
    sums-all sums width begun {n = 64} (omega arith) (omega arith)
    (sums_none sums width begun 4 64 (omega arith) (omega arith) (omega (arith, long))
    (sums_none sums width begun begun 4 (omega arith) (omega arith) (omega (arith, long)) c.sums_small-right.ensures c.none.ensures)
    c.none-then-begun-few.ensures)

pub returns-else-begun-few : goal.returns-else-begun-few
returns-else-begun-few c =
    let sums = c.args.sums.now in
    let begun = c.args.begun in
    sums-all sums c.args.width begun {n = 64} (omega arith) (omega arith)
    (sums_none sums c.args.width begun begun 64 (omega arith) c.requires.1.1 (omega (arith, c.requires.1.0)) c.sums_small-right.ensures c.none-else-begun-few.ensures)
