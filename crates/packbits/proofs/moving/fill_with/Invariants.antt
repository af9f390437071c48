-- `packbits::moving::fill_with` meets its contract: what is written so far is the byte. Assumes nothing.
use Rattle.laws.proofs.Lists.{FilledTo}
use Rattle.packbits.proofs.moving.fill_with.Given as goal

abbrev pub invariant-loop-x : goal.invariant-loop-x
invariant-loop-x l = FilledTo (λ k. l.b) l.initial.part l.x-index l.part
