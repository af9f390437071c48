-- `packets::feed::word` meets its contract: with prediction a word of its row, without it in the asked order. Assumes nothing.
use native.Mathlib.Omega.{arith}
use Rattle.words.specs.Word.{Bytes}
use Rattle.packets.specs.Steps.{Predicted}
use Rattle.packets.proofs.Wordwise.{is, plain-fed}
use Rattle.packets.proofs.Rowwise.{within-row, word_in_row}
use Rattle.packets.proofs.feed.word.Goals as goal

pub nonzero_rem-place : goal.nonzero_rem-place
nonzero_rem-place c =
    (is c.requires.feed).good.long

pub in_row-requires : goal.in_row-requires
in_row-requires c =
    let on : Predicted c.args.plan c.args.received c.args.raw.now c.args.sums.now c.args.out.now = record { feed = c.requires.feed; on = c.if-plan.true } in
    within-row on (word_in_row on c.requires.one)

pub returns : goal.returns
returns c =
    let bytes : Bytes c.args.raw.now = λ i. omega (arith, c.type_inv.raw i) in
    plain-fed c.requires.feed c.if-plan.false bytes c.reorder.result c.reorder.ensures
