-- `entries::walk::ascending` meets its contract: each tag is held against the one before it. Assumes nothing.
use Rattle.std.proofs.Common.{◌≡◌, ◌+◌, ◌-◌, ◌≤◌, ℕ, Bool, true, List}
use lib.Dec.{ltb}
use Rattle.entries.specs.Entries.{tag_at}
use Rattle.entries.specs.declared.Directory.{Directory}
use Rattle.laws.specs.Turns.{every}
use Rattle.entries.proofs.walk.ascending.Given as goal

abbrev pub below_next : List ℕ → Directory → ℕ → Bool
below_next file d i = ltb (tag_at file d i) (tag_at file d (i + 1))

abbrev pub invariant-loop-i : goal.invariant-loop-i
invariant-loop-i l = (1 ≤ l.i) × (l.i - 1 ≤ l.d.n - 1) × (every (l.i - 1) (below_next l.file l.d) ≡ true)
