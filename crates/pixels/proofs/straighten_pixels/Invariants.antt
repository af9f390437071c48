-- `pixels::straighten_pixels` meets its contract: the invariant and its laws are in proofs/Pixels.antt. Assumes nothing.
use Prim.Native.Nat.{◌*◌}
use mathlib.Core.Path.{◌≡◌}
use Rattle.pixels.proofs.Pixels.{Straight}
use Rattle.pixels.proofs.straighten_pixels.Given as goal

abbrev pub invariant-loop-p : goal.invariant-loop-p
invariant-loop-p l = (l.at ≡ l.p * l.channels) × Straight l.initial.s l.channels l.multiplied l.white l.p l.s
