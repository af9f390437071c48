-- `rows::word::sub` meets its contract: a difference modulo 2^64 is, modulo 256^width, the difference. Assumes nothing.
use Rattle.std.proofs.Common.{◌≡◌, arith}
use Rattle.words.proofs.Served.{served-wide, served-narrow}
use Rattle.rows.proofs.word.sub.Goals as goal

pub returns-else-width-eq4 : goal.returns-else-width-eq4
returns-else-width-eq4 c =
    let eight : c.args.width ≡ 8 = served-wide _ c.requires.0 c.if-width-gt3.true c.if-width-eq4.false in
    let small = rw eight at c.requires.1 in rw eight (omega arith)

pub returns-else-width-eq2 : goal.returns-else-width-eq2
returns-else-width-eq2 c =
    let three : c.args.width ≡ 3 = served-narrow _ c.requires.0 c.if-width-gt3.false c.if-width-eq1.false c.if-width-eq2.false in
    let small = rw three at c.requires.1 in rw three (omega arith)
