-- `rows::lead` meets its contract: what is stored up to `at` are the words. Assumes nothing.
use Rattle.std.proofs.Common.{ℕ, ◌+◌, ◌<◌, ◌*◌, sym, ap, ◌∙◌, mul-le-mul_right, arith}
use Rattle.words.specs.Word.{word_at}
use Rattle.words.proofs.Served.{served-some}
use Rattle.rows.proofs.Loops.{next_at, back_at, turned}
use Rattle.rows.proofs.lead.Goals as goal

pub loop-n-preserved : goal.loop-n-preserved
loop-n-preserved c =
    let args = c.args in
    let (place, is) = c.loop-n.invariant in
    let n = c.loop-n.n in
    let next = next_at n args.width in
    let more : c.loop-n.at < args.channels * args.width =
    omega (arith, (served-some args.width c.requires.takes).0, place, next, mul-le-mul_right {m = n + 1} {n = args.channels} args.width (omega (arith, c.loop-n-test.true))) in
    (omega (arith, place, next), turned is c.requires.words more c.requires.room _ _ (c.get.ensures ∙ ap (λ (k : ℕ). word_at args.raw.now k args.width args.le) (sym (back_at is))) c.put.ensures)
