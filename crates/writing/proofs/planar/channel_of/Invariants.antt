-- `writing::planar::channel_of` meets its contract: the invariant and its laws are in proofs/Channels.antt. Assumes nothing.
use Prim.Native.Nat.{◌+◌, ◌*◌}
use mathlib.Core.Path.{◌≡◌}
use Rattle.writing.proofs.Channels.{TakenPixels}
use Rattle.writing.proofs.planar.channel_of.Given as goal

abbrev pub invariant-loop-p : goal.invariant-loop-p
invariant-loop-p g l = (l.from ≡ l.first + l.p * l.stride) × (l.at ≡ l.p * g.row.BYTES) × TakenPixels l.picture l.first l.stride g.row.BYTES l.le l.initial.out l.p l.out
