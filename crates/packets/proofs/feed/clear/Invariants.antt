-- `packets::feed::clear` meets its contract: as far as the loop came, all is 0. Assumes nothing.
use Rattle.laws.proofs.Lists.{FilledTo}
use Rattle.packets.proofs.feed.clear.Given as goal

abbrev pub invariant-loop-sum : goal.invariant-loop-sum
invariant-loop-sum l = FilledTo (λ j. 0) l.initial.sums l.sum-index l.sums
