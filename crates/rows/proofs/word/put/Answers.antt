-- `rows::word::put` meets its contract: the word stored as it is, or its bytes backwards, of three by themselves. Assumes nothing.
use Rattle.words.proofs.Puts.{put_backwards}
use Rattle.rows.proofs.word.put.Goals as goal

pub returns-else-width-eq3 : goal.returns-else-width-eq3
returns-else-width-eq3 c =
    let args = c.args in
    rw c.if-le.false (put_backwards args.out.now args.at args.width args.v _ _ c.backwards.ensures c.store-else-width-eq3.ensures)
