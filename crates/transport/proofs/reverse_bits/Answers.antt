-- `transport::reverse_bits` meets its promise: the blocks and the rest are the whole. Assumes nothing.
use native.Mathlib.Nat.{sub-le}
use Prim.Native.Nat.{◌%◌}
use lib.ListN.{length}
use Rattle.transport.proofs.Reversing.{both_reversed}
use Rattle.transport.proofs.reverse_bits.Goals as goal

pub returns : goal.returns
returns c =
    let old = c.args.s.now in both_reversed _ old _ _ (sub-le (length old) (length old % 8)) c.reverse_by_bits.ensures c.reverse_rest.ensures
