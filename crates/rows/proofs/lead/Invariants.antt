-- `rows::lead` meets its contract: what is stored up to `at` are the words. Assumes nothing.
use Rattle.std.proofs.Common.{◌≡◌, ◌*◌}
use Rattle.samples.specs.Sample.{word_of}
use Rattle.rows.proofs.Loops.{Upto}
use Rattle.rows.proofs.lead.Given as goal

abbrev pub invariant-loop-n : goal.invariant-loop-n
invariant-loop-n l = (l.at ≡ l.n * l.width) × Upto (word_of l.width l.le l.raw) l.width l.out_le (l.channels * l.width) l.initial.out l.at l.out
