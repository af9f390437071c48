-- `damage::pixel::pixel_struck` meets its contract: the invariant and its laws are in proofs/Begins.antt. Assumes nothing.
use Prim.Native.Nat.{◌/◌}
use Rattle.damage.proofs.Begins.{Struck}
use Rattle.damage.proofs.pixel.pixel_struck.Given as goal

abbrev pub invariant-loop-looked : goal.invariant-loop-looked
invariant-loop-looked l = Struck l.damage l.width (l.first / l.width) l.at l._looked
