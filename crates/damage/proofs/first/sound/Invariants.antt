-- `damage::first::sound` meets its contract: no byte so far is larger than the largest. Assumes nothing.
use Prim.Native.Nat.{ℕ, ◌≤◌, ◌<◌}
use lib.ListN.{length, get_or}
use Rattle.damage.proofs.first.sound.Given as goal

abbrev pub invariant-loop-byte : goal.invariant-loop-byte
invariant-loop-byte l = (l.byte-index ≤ length l.block) × ((k : ℕ) → k < l.byte-index → get_or l.block k 0 ≤ l.most)
