-- `slots::bits::byte` meets its contract: the columns so far are the digits of a number, the last the lowest. Assumes nothing.
use native.Mathlib.Nat.{mod-eq_of_lt}
use native.Mathlib.Omega.{arith}
use Prim.Native.Nat.{◌-◌, ◌*◌, ◌^◌}
use mathlib.Core.Path.{◌≡◌, ◌∙◌}
use mir.Facts.{Fits-below}
use lib.ListN.{length}
use Rattle.slots.specs.Rows.{byte_from}
use Rattle.slots.proofs.Packing.{packed_small, packed_byte, byte_below}
use Rattle.slots.proofs.bits.byte.Goals as goal

pub overflow_mul-byte : goal.overflow_mul-byte
overflow_mul-byte c =
    Fits-below {n = 255} tt (omega (arith, packed_small (omega arith) c.loop-v.invariant))

pub overflow_add-byte : goal.overflow_add-byte
overflow_add-byte c =
    Fits-below {n = 255} tt (omega (arith, packed_small (omega arith) c.loop-v.invariant, c.bit.ensures))

pub returns : goal.returns
returns c =
    let white = c.args.white in
    let columns = c.args.columns.now in
    let all : c.loop-v.v-index ≡ length columns = omega arith in
    let is : c.loop-v.byte * 2 ^ (8 - length columns) ≡ byte_from white columns 0 = packed_byte (omega arith) (rw all at c.loop-v.invariant) in
    mod-eq_of_lt (rw is (byte_below white columns 0)) ∙ is
