-- `transport::copy` meets its contract: the first i bytes of the output are the source's, the rest as they were. Assumes nothing.
use Rattle.laws.proofs.Lists.{FilledTo}
use Rattle.std.proofs.Common.{get_or}
use Rattle.transport.proofs.copy.Given as goal

abbrev pub invariant-loop-i : goal.invariant-loop-i
invariant-loop-i l = FilledTo (λ k. get_or l.source k 0) l.initial.out l.i l.out
