-- `transport::reverse_by_table` meets its contract: a byte's entry is the byte reversed. Assumes nothing.
use borrow.Author.Rules.{rules}
use Prim.Native.Nat.{◌<◌}
use lib.ListN.{get_or}
use Rattle.laws.proofs.Lists.{changed_next}
use Rattle.transport.specs.Moved.{reversed}
use Rattle.transport.proofs.reverse_by_table.Goals as goal

pub loop-byte-preserved : goal.loop-byte-preserved
loop-byte-preserved c =
    let byte : get_or c.loop-byte.s c.loop-byte.byte-index 0 < 256 = search rules in
    changed_next reversed c.loop-byte.invariant (search rules) (c.requires.right _ byte)
