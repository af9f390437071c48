-- `entries::seek` meets its contract: lower tags are passed over. Assumes nothing.
use Prim.Native.Nat.{◌-◌}
use Rattle.entries.specs.Entries.{seek, tag_at}
use mathlib.Core.Path.{◌≡◌}
use Rattle.std.proofs.Common.{max, ◌≤◌}
use Rattle.entries.proofs.seek.Given as goal

abbrev pub invariant-loop-i : goal.invariant-loop-i
invariant-loop-i l = (l.i ≤ max l.from l.d.n) × (seek (tag_at l.file l.d) l.tag l.i (l.d.n - l.i) ≡ seek (tag_at l.file l.d) l.tag l.from (l.d.n - l.from))
