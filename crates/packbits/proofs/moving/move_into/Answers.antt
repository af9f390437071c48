-- `packbits::moving::move_into` meets its contract: what is written so far is the source. Assumes nothing.
use Rattle.std.proofs.Common.{◌∙◌, ap, ℕ, get_or, sym, arith}
use Rattle.laws.proofs.Lists.{filled_end}
use Rattle.answer.specs.Table.{table}
use Rattle.answer.proofs.Filling.{table_self}
use Rattle.packbits.proofs.moving.move_into.Goals as goal

pub returns : goal.returns
returns c =
    filled_end c.loop-i.invariant (omega (arith, c.loop-i-test.false, c.requires)) ∙ ap (λ (n : ℕ). table n (λ k. get_or c.args.source.now k 0)) (sym c.requires) ∙ table_self c.args.source.now
