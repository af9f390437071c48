-- `pixels::word` meets its contract: the bytes so far stand in the word. Assumes nothing.
use Prim.Native.Nat.{ℕ, ◌-◌, ◌<◌}
use mathlib.Core.Path.{◌≡◌}
use lib.ListN.{length, get_or}
use Rattle.answer.specs.Outcome.{pick}
use Rattle.pixels.proofs.word.Given as goal

abbrev pub invariant-loop-b : goal.invariant-loop-b
invariant-loop-b g l = (length l.word ≡ g.row.BYTES) × ((k : ℕ) → k < l.b → get_or l.word k 0 ≡ get_or l.stored (pick l.le (g.row.BYTES - 1 - k) k) 0)
