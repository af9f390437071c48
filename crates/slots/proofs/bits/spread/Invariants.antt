-- `slots::bits::spread` meets its contract: a store for each bit. Assumes nothing.
use Prim.Native.Nat.{◌-◌, ◌*◌, ◌/◌, ◌%◌, ◌^◌}
use mathlib.Core.Path.{◌≡◌}
use lib.ListN.{length}
use Rattle.answer.specs.Table.{stores}
use Rattle.slots.proofs.bits.spread.Given as goal

abbrev pub invariant-loop-p : goal.invariant-loop-p
invariant-loop-p l = (length l.out ≡ length l.initial.out) × (l.out ≡ stores l.initial.out l.at l.p (λ k. 255 * (l.t / 2 ^ (7 - k) % 2)))
