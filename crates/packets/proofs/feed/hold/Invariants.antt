-- `packets::feed::hold` meets its contract: the bytes so far are stored behind the others. Assumes nothing.
use mathlib.Core.Path.{◌≡◌}
use Prim.Native.Nat.{◌≤◌}
use lib.ListN.{length, get_or}
use Rattle.answer.specs.Table.{stores}
use Rattle.packets.proofs.feed.hold.Given as goal

abbrev pub invariant-loop-i : goal.invariant-loop-i
invariant-loop-i l = (l.i ≤ length l.bytes) × (l.tail ≡ stores l.initial.tail l.fill l.i (λ j. get_or l.bytes j 0))
