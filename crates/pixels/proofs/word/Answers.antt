-- `pixels::word` meets its contract: the bytes so far stand in the word. Assumes nothing.
use Prim.Native.Nat.{ℕ, ◌-◌, ◌<◌}
use mathlib.Core.Path.{sym, ◌∙◌}
use native.Mathlib.Omega.{arith}
use lib.ListN.{get_or}
use lib.Seq.{ext_get_or}
use Rattle.answer.specs.Outcome.{pick}
use Rattle.answer.specs.Table.{table}
use Rattle.answer.proofs.Filling.{length-table, table_at}
use Rattle.pixels.proofs.word.Goals as goal

pub returns : goal.returns
returns g c =
    let bytes = g.row.BYTES in
    let f : ℕ → ℕ = λ b. get_or c.args.stored (pick c.args.le (bytes - 1 - b) b) 0 in
    ext_get_or 0 c.loop-b.word (table bytes f) (c.loop-b.invariant.0 ∙ sym (length-table bytes f))
    (λ i h. let below : i < bytes = omega (arith, h, c.loop-b.invariant.0) in c.loop-b.invariant.1 i (omega (arith, below, c.loop-b-test.false)) ∙ sym (table_at bytes f i below))
