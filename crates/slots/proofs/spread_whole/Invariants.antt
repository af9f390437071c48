-- `slots::spread_whole` meets its contract: eight columns for each byte. Assumes nothing.
use Prim.Native.Nat.{◌*◌}
use mathlib.Core.Path.{◌≡◌}
use lib.ListN.{length}
use Rattle.answer.specs.Table.{filled}
use Rattle.slots.specs.Rows.{bilevel_at}
use Rattle.slots.proofs.spread_whole.Given as goal

abbrev pub invariant-loop-i : goal.invariant-loop-i
invariant-loop-i l = (length l.out ≡ length l.initial.out) × (l.out ≡ filled (8 * l.i) (bilevel_at l.white l.raw) l.initial.out)
