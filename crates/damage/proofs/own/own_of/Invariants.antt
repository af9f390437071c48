-- `damage::own::own_of` meets its contract, at every width: the invariant and its laws are in proofs/Loops.antt. Assumes nothing.
use Prim.Native.Nat.{◌-◌}
use lib.ListN.{length}
use Rattle.damage.proofs.Loops.{Owning}
use Rattle.damage.proofs.own.own_of.Given as goal

abbrev pub invariant-loop-n : goal.invariant-loop-n
invariant-loop-n l = Owning l.width l.damage l.initial.marks l.at l.n l.marks

abbrev pub decreases-loop-n : goal.decreases-loop-n
decreases-loop-n l = length l.initial.marks - l.n
