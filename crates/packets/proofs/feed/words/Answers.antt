-- `packets::feed::words` meets its contract: with prediction row by row, without it in the asked order. Assumes nothing.
use native.Mathlib.Omega.{arith}
use Rattle.words.specs.Word.{Bytes}
use Rattle.packets.proofs.Wordwise.{plain-fed}
use Rattle.packets.proofs.feed.words.Goals as goal

pub returns : goal.returns
returns c =
    let bytes : Bytes c.args.raw.now = λ i. omega (arith, c.type_inv.raw i) in
    plain-fed c.requires c.if-plan.false bytes c.reorder.result c.reorder.ensures
