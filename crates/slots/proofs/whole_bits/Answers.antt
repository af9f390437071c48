-- `slots::whole_bits` meets its contract: a byte for each eight columns. Assumes nothing.
use Prim.Native.Nat.{◌+◌, ◌*◌}
use mathlib.Core.Path.{◌≡◌, ◌∙◌}
use mathlib.Core.Logic.{inl}
use mathlib.Core.Path.{refl}
use native.Mathlib.Omega.{arith}
use lib.ListN.{length-set}
use Rattle.slots.specs.Rows.{bits_at}
use Rattle.laws.proofs.Lists.{filled-one}
use Rattle.slots.proofs.Packing.{part_byte}
use Rattle.slots.proofs.whole_bits.Goals as goal

pub loop-b-preserved : goal.loop-b-preserved
unfolding bits_at
loop-b-preserved c =
    let args = c.args in
    let b = c.loop-b.b in
    let byte : c.byte.result ≡ bits_at args.white args.picture.now b = c.byte.ensures ∙ part_byte args.white args.picture.now (8 * b) (8 * b + 8) (omega arith) (omega arith) (inl refl) in
    (simp length-set (omega arith), filled-one (bits_at args.white args.picture.now) args.out.now b c.loop-b.invariant.1 byte (omega arith))
