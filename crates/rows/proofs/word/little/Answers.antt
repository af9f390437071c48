-- `rows::word::little` meets its contract: each width's arm reads that width's word. Assumes nothing.
use Rattle.std.proofs.Common.{◌≡◌, arith}
use Rattle.words.proofs.Served.{served-wide, served-narrow}
use Rattle.rows.proofs.word.little.Goals.{Else-width-eq2, Else-width-eq4}
use Rattle.rows.proofs.word.little.Goals as goal

-- the widths that are left, of those above 3 and of the others
eight : (c : Else-width-eq4) → c.args.width ≡ 8
eight c =
    served-wide _ c.requires.0 c.if-width-gt3.true c.if-width-eq4.false

three : (c : Else-width-eq2) → c.args.width ≡ 3
three c =
    served-narrow _ c.requires.0 c.if-width-gt3.false c.if-width-eq1.false c.if-width-eq2.false

pub little8-requires : goal.little8-requires
little8-requires c =
    omega (arith, eight (goal.at.little8-requires c).Else-width-eq4)

pub little3-requires : goal.little3-requires
little3-requires c =
    omega (arith, three (goal.at.little3-requires c).Else-width-eq2)

pub returns-else-width-eq4 : goal.returns-else-width-eq4
returns-else-width-eq4 c =
    rw (eight (goal.at.returns-else-width-eq4 c).Else-width-eq4) c.little8.ensures

pub returns-else-width-eq2 : goal.returns-else-width-eq2
returns-else-width-eq2 c =
    rw (three (goal.at.returns-else-width-eq2 c).Else-width-eq2) c.little3.ensures
