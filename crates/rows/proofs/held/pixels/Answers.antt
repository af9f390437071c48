-- `rows::held::pixels` meets its contract, at every width and for every number of channels: what is stored so far are the samples, and the sums
-- are those of proofs/Summed.antt. Assumes nothing.
use Rattle.std.proofs.Common.{◌≡◌, ◌+◌, ◌*◌, add-mul, one-mul, zero-mul, mul-le-mul, arith}
use Rattle.words.proofs.Served.{served-some}
use Rattle.rows.proofs.Loops.{next_at}
use Rattle.rows.proofs.Summed.{summed-first, summed-next, summed-on, stored-on, row_begun}
use Rattle.rows.proofs.held.pixels.Goals as goal

pub overflow_mul-pixel : goal.overflow_mul-pixel
overflow_mul-pixel g c =
    omega (arith, mul-le-mul c.requires.few (served-some c.args.width c.requires.row.takes).1)

pub loop-n-init : goal.loop-n-init
loop-n-init g c =
    let args = c.args in
    (omega (arith, zero-mul (g.row.N * args.width)), row_begun c.requires.row args.le args.out_le, rw c.copy_from_slice.ensures.after (summed-first args.raw.now g.row.N args.width args.le args.start.now c.requires.row.held))

pub loop-c-preserved : goal.loop-c-preserved
loop-c-preserved g c =
    let (place, is) = c.loop-c.invariant in
    let there : c.loop-c.from ≡ c.loop-n.n * (g.row.N * c.args.width) + c.loop-c.c * c.args.width = omega (arith, place, c.loop-n.invariant.0) in
    (omega (arith, place, next_at c.loop-c.c c.args.width), summed-on c.requires.row c.loop-n-test.true c.loop-c-test.true is c.sum.result (rw there at c.sum.ensures))

pub loop-c-2-preserved : goal.loop-c-2-preserved
loop-c-2-preserved g c =
    let all : c.loop-c.c ≡ g.row.N = omega (arith, c.loop-c-test.false) in
    let (place, is) = c.loop-c-2.invariant in
    let there : c.loop-c-2.to ≡ c.loop-n.n * (g.row.N * c.args.width) + c.loop-c-2.c * c.args.width = omega (arith, place, c.loop-n.invariant.0) in (
      omega (arith, place, next_at c.loop-c-2.c c.args.width),
      stored-on c.requires.row c.loop-n-test.true c.loop-c-2-test.true is (rw all at c.loop-c.invariant.1) c.put.new.out (rw there at c.put.ensures),
    )

pub loop-n-preserved : goal.loop-n-preserved
loop-n-preserved g c =
    let all : c.loop-c.c ≡ g.row.N = omega (arith, c.loop-c-test.false) in
    let whole : c.loop-c-2.c ≡ g.row.N = omega (arith, c.loop-c-2-test.false) in
    let next : c.loop-n.n * g.row.N + g.row.N ≡ (c.loop-n.n + 1) * g.row.N = omega (arith, add-mul c.loop-n.n 1 g.row.N, one-mul g.row.N) in
    (omega (arith, c.loop-n.invariant.0, next_at c.loop-n.n (g.row.N * c.args.width)), rw (whole, next) at c.loop-c-2.invariant.1, summed-next (rw all at c.loop-c.invariant.1))
