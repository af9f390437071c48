-- `slots::whole_bits` meets its contract: a byte for each eight columns. Assumes nothing.
use mathlib.Core.Path.{◌≡◌}
use lib.ListN.{length}
use Rattle.answer.specs.Table.{filled}
use Rattle.slots.specs.Rows.{bits_at}
use Rattle.slots.proofs.whole_bits.Given as goal

abbrev pub invariant-loop-b : goal.invariant-loop-b
invariant-loop-b l = (length l.out ≡ length l.initial.out) × (l.out ≡ filled l.b (bits_at l.white l.picture) l.initial.out)
