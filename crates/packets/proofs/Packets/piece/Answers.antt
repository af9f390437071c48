-- `packets::Packets::piece` meets its promise: the state's parts are lent. Assumes nothing.
use borrow.Author.Rules.{rules}
use mathlib.Core.Path.{◌≡◌}
use lib.ListN.{length}
use Rattle.packets.proofs.Answers.{piece_done}
use Rattle.packets.proofs.Packets.piece.Goals as goal

pub returns-in-Ok : goal.returns-in-Ok
returns-in-Ok c =
    let tails : length c.args.self.tail ≡ 8 = search rules in
    let sums : length c.args.self.sums ≡ 64 = search rules in
    let args = c.args in
    piece_done args.self args.bytes.now args.out.now tails sums c.lent_piece-answer.ensures c.in-Ok.is
