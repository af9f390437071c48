-- `rendering::gather::pixels_apart` meets its contract: the invariant and its laws are in proofs/Gathering.antt. Assumes nothing.
use Prim.Native.Nat.{◌+◌, ◌*◌}
use mathlib.Core.Path.{◌≡◌}
use Rattle.rendering.proofs.Gathering.{GatheredPixels}
use Rattle.rendering.proofs.gather.pixels_apart.Given as goal

abbrev pub invariant-loop-p : goal.invariant-loop-p
invariant-loop-p g l = (l.place ≡ l.from + l.p * g.row.BYTES) × (l.at ≡ l.p * (g.row.CHANNELS * g.row.BYTES)) × GatheredPixels l.raw l.plane_len l.from g.row.CHANNELS g.row.BYTES l.le l.initial.out l.p l.out
