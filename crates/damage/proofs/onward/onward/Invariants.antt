-- `damage::onward::onward` meets its contract: the invariant and its laws are in proofs/Loops.antt. Assumes nothing.
use Rattle.damage.proofs.Loops.{Onward}
use Rattle.damage.proofs.onward.onward.Given as goal

abbrev pub invariant-loop-n : goal.invariant-loop-n
invariant-loop-n l = Onward l.channels l.initial.marks l.n l.marks
