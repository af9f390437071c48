-- `packet_numbers::numbers_of` meets its contract: they stand for the state (proofs/Standing.antt). Assumes nothing.
use borrow.Author.Rules.{rules}
use mathlib.Core.Path.{◌≡◌, ◌∙◌}
use lib.ListN.{length}
use Rattle.packet_numbers.proofs.Standing.{flag_is, stands}
use Rattle.packet_numbers.proofs.numbers_of.Goals as goal

pub returns : goal.returns
returns c =
    let tails : length c.args.state.tail ≡ 8 = search rules in
    let sums : length c.args.state.sums ≡ 64 = search rules in
    rw (c.with_sums-s.ensures, c.from.ensures ∙ flag_is _, c.from-2.ensures ∙ flag_is _, c.from-3.ensures ∙ flag_is _) (stands c.args.state c.word_of.result tails sums c.word_of.ensures.1 c.word_of.ensures.0)
