-- `rows::held::pixels` meets its contract, at every width and for every number of channels: what is stored so far are the samples, and the sums
-- are those of proofs/Summed.antt. Assumes nothing.
use Rattle.std.proofs.Common.{◌≡◌, ◌+◌, ◌*◌, length}
use Rattle.rows.specs.Row.{resumed}
use Rattle.rows.proofs.Loops.{Upto}
use Rattle.rows.proofs.Summed.{Summed}
use Rattle.rows.proofs.held.pixels.Given as goal

abbrev pub invariant-loop-n : goal.invariant-loop-n
invariant-loop-n g l =
    (l.at ≡ l.n * (g.row.N * l.width))
    × Upto (resumed l.raw g.row.N l.width l.le l.start) l.width l.out_le (length l.raw) l.initial.out (l.n * g.row.N * l.width) l.out
    × Summed l.raw g.row.N l.width l.le l.start l.n 0 l.sums

abbrev pub invariant-loop-c : goal.invariant-loop-c
invariant-loop-c g l = (l.from ≡ l.at + l.c * l.width) × Summed l.raw g.row.N l.width l.le l.start l.n l.c l.sums

abbrev pub invariant-loop-c-2 : goal.invariant-loop-c-2
invariant-loop-c-2 g l =
    (l.to ≡ l.at + l.c * l.width)
    × Upto (resumed l.raw g.row.N l.width l.le l.start) l.width l.out_le (length l.raw) l.fn.out ((l.n * g.row.N + l.c) * l.width) l.out
