-- `damage::count::total` meets its contract: the sum so far is the count of the blocks passed. Assumes nothing.
use native.Mathlib.Omega.{arith}
use Prim.Native.Nat.{◌+◌}
use mathlib.Core.Path.{◌≡◌}
use Rattle.damage.specs.Marks.{damaged, counted}
use Rattle.damage.proofs.Loops.{part_count, counted-most}
use Rattle.damage.proofs.count.total.Goals.{After-few-more}
use Rattle.damage.proofs.count.total.Goals as goal

-- the sum with a block's is the count up to its end
counted_on : (c : After-few-more) → c.loop-n.sum + c.few-more.result ≡ counted c.block_end-end.result (damaged c.args.marks.now)
counted_on c =
    let block = c.block_end-end in
    omega (arith, c.loop-n.invariant.1, c.few-more.ensures, part_count c.args.marks.now c.loop-n.n block.result (omega (arith, block.ensures.on)) (omega (arith, block.ensures.inside)))

pub overflow_add-sum : goal.overflow_add-sum
overflow_add-sum c =
    omega (arith, counted_on (goal.at.overflow_add-sum c).After-few-more, counted-most c.block_end-end.result (damaged c.args.marks.now), c.block_end-end.ensures.inside, c.well_formed)

pub loop-n-preserved : goal.loop-n-preserved
loop-n-preserved c =
    (omega (arith, c.block_end-end.ensures.inside), counted_on (goal.at.loop-n-preserved c).After-few-more)
