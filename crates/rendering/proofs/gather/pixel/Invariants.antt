-- `rendering::gather::pixel` meets its contract: the invariant and its laws are in proofs/Gathering.antt. Assumes nothing.
use Prim.Native.Nat.{◌+◌, ◌*◌}
use mathlib.Core.Path.{◌≡◌}
use Rattle.rendering.proofs.Gathering.{GatheredChannels}
use Rattle.rendering.proofs.gather.pixel.Given as goal

abbrev pub invariant-loop-c : goal.invariant-loop-c
invariant-loop-c g l = (l.from ≡ l.place + l.c * l.plane_len) × (l.to ≡ l.at + l.c * g.row.BYTES) × GatheredChannels l.raw l.plane_len l.place g.row.CHANNELS g.row.BYTES l.le l.at l.initial.out l.c l.out
