-- `pixels::invert` meets its promise: the bytes so far are inverted, the rest as they were. Assumes nothing.
use Prim.Native.Nat.{◌-◌}
use Rattle.laws.proofs.Lists.{Changed}
use Rattle.pixels.proofs.invert.Given as goal

abbrev pub invariant-loop-v : goal.invariant-loop-v
invariant-loop-v l = Changed (λ b. 255 - b) l.initial.s l.v-index l.s
