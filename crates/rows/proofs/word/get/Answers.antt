-- `rows::word::get` meets its contract: the word as it is, or its bytes backwards. Assumes nothing.
use Rattle.std.proofs.Common.{arith}
use Rattle.words.specs.Word.{Bytes}
use Rattle.words.proofs.Words.{word-other}
use Rattle.rows.proofs.word.get.Goals as goal

pub returns-else-le : goal.returns-else-le
returns-else-le c =
    let bytes : Bytes c.args.s.now = λ i. omega (arith, c.type_inv.s i) in
    let args = c.args in
    word-other args.s.now args.at args.width args.le _ _ bytes c.if-le.false c.little-v.ensures c.backwards.ensures
