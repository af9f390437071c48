-- `damage::fill::fill` meets its contract: what is written so far is the mark. Assumes nothing.
use Rattle.laws.proofs.Lists.{FilledTo}
use Rattle.damage.proofs.fill.fill.Given as goal

abbrev pub invariant-loop-each : goal.invariant-loop-each
invariant-loop-each l = FilledTo (λ k. l.mark) l.initial.marks l.each-index l.marks
