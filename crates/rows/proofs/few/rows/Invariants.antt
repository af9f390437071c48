-- `rows::few::rows` meets its contract: the invariant and its laws are in proofs/Rows.antt. Assumes nothing.
use Rattle.std.proofs.Common.{◌-◌, length}
use Rattle.samples.specs.Sample.{strip, stored_at}
use Rattle.rows.specs.Row.{resumed_in}
use Rattle.rows.proofs.Rows.{RowsUpto}
use Rattle.rows.proofs.few.rows.Given as goal

abbrev pub invariant-loop-at : goal.invariant-loop-at
invariant-loop-at l = RowsUpto (stored_at l.form.width l.form.out_le (resumed_in (strip l.row_bytes l.form.channels l.form.width) l.raw l.form.le l.start)) l.raw (strip l.row_bytes l.form.channels l.form.width) l.initial.out l.at l.out

abbrev pub decreases-loop-at : goal.decreases-loop-at
decreases-loop-at l = length l.raw - l.at
