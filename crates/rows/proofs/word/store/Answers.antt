-- `rows::word::store` meets its contract: each width's arm stores that width's low bytes. Assumes nothing.
use Rattle.std.proofs.Common.{◌≡◌, true, arith}
use Rattle.words.proofs.Served.{served-wide, served-narrow}
use Rattle.words.proofs.Puts.{put_rest, put_halves}
use Rattle.rows.proofs.word.store.Goals.{Else-width-eq2, Else-width-eq4}
use Rattle.rows.proofs.word.store.Goals as goal

-- the widths that are left, of those above 3 and of the others
eight : (c : Else-width-eq4) → c.args.width ≡ 8
eight c =
    served-wide _ c.requires.0 c.if-width-gt3.true c.if-width-eq4.false

three : (c : Else-width-eq2) → c.args.width ≡ 3
three c =
    served-narrow _ c.requires.0 c.if-width-gt3.false c.if-width-eq1.false c.if-width-eq2.false

pub store8-requires : goal.store8-requires
store8-requires c =
    omega (arith, eight (goal.at.store8-requires c).Else-width-eq4)

pub store3-requires : goal.store3-requires
store3-requires c =
    omega (arith, three (goal.at.store3-requires c).Else-width-eq2)

pub returns-else-width-eq4 : goal.returns-else-width-eq4
returns-else-width-eq4 c =
    rw (eight (goal.at.returns-else-width-eq4 c).Else-width-eq4) (put_halves c.store8.ensures)

pub returns-else-width-eq2 : goal.returns-else-width-eq2
returns-else-width-eq2 c =
    let args = c.args in
    rw (three (goal.at.returns-else-width-eq2 c).Else-width-eq2) (put_rest args.out.now args.at 3 true args.v _ c.store3.ensures)
