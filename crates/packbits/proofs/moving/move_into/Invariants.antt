-- `packbits::moving::move_into` meets its contract: what is written so far is the source. Assumes nothing.
use Rattle.laws.proofs.Lists.{FilledTo}
use Rattle.std.proofs.Common.{get_or}
use Rattle.packbits.proofs.moving.move_into.Given as goal

abbrev pub invariant-loop-i : goal.invariant-loop-i
invariant-loop-i l = FilledTo (λ k. get_or l.source k 0) l.initial.out l.i l.out
