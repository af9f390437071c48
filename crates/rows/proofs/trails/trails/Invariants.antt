-- `rows::trails::trails` meets its contract, at every width: what is stored up to `at` are the samples. Assumes nothing.
use Rattle.std.proofs.Common.{◌-◌, ◌*◌, ◌≤◌, true, length}
use Rattle.samples.specs.Sample.{sample}
use Rattle.rows.specs.Row.{one_row}
use Rattle.rows.proofs.Loops.{Upto}
use Rattle.rows.proofs.trails.trails.Given as goal

abbrev pub invariant-loop-at : goal.invariant-loop-at
invariant-loop-at l =
    Upto (sample (one_row l.raw l.channels l.width) true l.le l.raw) l.width l.out_le (length l.raw) l.initial.out l.at l.out × (l.channels * l.width ≤ l.at)

abbrev pub decreases-loop-at : goal.decreases-loop-at
decreases-loop-at l = length l.raw - l.at
