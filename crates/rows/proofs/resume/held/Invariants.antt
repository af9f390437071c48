-- `rows::resume::held` meets its contract: the sums so far are the words at their places. Assumes nothing.
use Rattle.std.proofs.Common.{◌≡◌, ◌+◌, ◌*◌}
use Rattle.answer.specs.Table.{filled}
use Rattle.words.specs.Word.{word_at}
use Rattle.rows.proofs.resume.held.Given as goal

abbrev pub invariant-loop-channel : goal.invariant-loop-channel
invariant-loop-channel l =
    (l.at ≡ l.last + l.channel * l.form.width)
    × (l.sums ≡ filled l.channel (λ j. word_at l.out (l.last + j * l.form.width) l.form.width l.form.out_le) l.initial.sums)
