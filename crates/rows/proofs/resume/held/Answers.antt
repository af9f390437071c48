-- `rows::resume::held` meets its contract: the sums so far are the words at their places. Assumes nothing.
use Rattle.std.proofs.Common.{ℕ, ap, ◌∙◌, arith}
use Rattle.words.specs.Word.{word_at}
use Rattle.rows.proofs.Loops.{next_at}
use Rattle.rows.proofs.Running.{held_turned}
use Rattle.rows.proofs.resume.held.Goals as goal

pub loop-channel-preserved : goal.loop-channel-preserved
loop-channel-preserved c =
    let form = c.args.form in
    let (place, is) = c.loop-channel.invariant in (
      omega (arith, place, next_at c.loop-channel.channel form.width),
      held_turned c.requires form.out_le is c.loop-channel-test.true _ (c.get.ensures ∙ ap (λ (k : ℕ). word_at c.args.out.now k form.width form.out_le) place),
    )
