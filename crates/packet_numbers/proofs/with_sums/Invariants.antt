-- `packet_numbers::with_sums` meets its contract: the sums so far are stored from number 8 on. Assumes nothing.
use mathlib.Core.Path.{◌≡◌}
use Prim.Native.Nat.{◌≤◌}
use lib.ListN.{get_or}
use Rattle.answer.specs.Table.{table, stores}
use Rattle.packet_numbers.proofs.with_sums.Given as goal

abbrev pub invariant-loop-i : goal.invariant-loop-i
invariant-loop-i l = (l.i ≤ 64) × (l.s ≡ stores (table 80 (λ j. 0)) 8 l.i (λ j. get_or l.fn.sums j 0))
