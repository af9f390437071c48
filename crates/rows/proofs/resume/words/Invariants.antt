-- `rows::resume::words` meets its contract: the invariant and its laws are in proofs/Running.antt. Assumes nothing.
use Rattle.std.proofs.Common.{◌-◌, length}
use Rattle.rows.proofs.Running.{Running}
use Rattle.rows.proofs.resume.words.Given as goal

abbrev pub invariant-loop-at : goal.invariant-loop-at
invariant-loop-at l = Running l.raw l.first l.channels l.width l.le l.out_le l.initial.sums l.initial.out l.sums l.out l.channel l.at

abbrev pub decreases-loop-at : goal.decreases-loop-at
decreases-loop-at l = length l.raw - l.at
