-- `pixels::invert` meets its promise: the bytes so far are inverted, the rest as they were. Assumes nothing.
use borrow.Author.Rules.{rules}
use Prim.Native.Nat.{◌-◌}
use Rattle.laws.proofs.Lists.{changed_next}
use Rattle.pixels.proofs.invert.Goals as goal

pub loop-v-preserved : goal.loop-v-preserved
loop-v-preserved c =
    changed_next (λ b. 255 - b) c.loop-v.invariant (search rules) c.flip.ensures
