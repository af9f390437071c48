-- `rows::predicted_rows` meets its contract: the invariant and its laws are in proofs/Rows.antt. Assumes nothing.
use Rattle.std.proofs.Common.{◌≡◌, ◌*◌, true}
use Rattle.samples.specs.Sample.{strip, stored_at}
use Rattle.rows.specs.Row.{meant}
use Rattle.rows.proofs.Rows.{RowsUpto}
use Rattle.rows.proofs.predicted_rows.Given as goal

abbrev pub invariant-loop-n : goal.invariant-loop-n
invariant-loop-n l = (l.at ≡ l.n * l.row_bytes) × RowsUpto (stored_at l.form.width l.form.out_le (meant l.forward (strip l.row_bytes l.form.channels l.form.width) true l.form.le l.raw)) l.raw (strip l.row_bytes l.form.channels l.form.width) l.initial.out l.at l.out
