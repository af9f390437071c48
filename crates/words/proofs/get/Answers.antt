-- `words::get` meets its contract: each width's arm reads that width's word, and a width that is none of the first four is 8. Assumes nothing.
use mathlib.Core.Path.{◌≡◌}
use native.Mathlib.Omega.{arith}
use Rattle.words.specs.Word.{Bytes}
use Rattle.words.proofs.Served.{served_eight}
use Rattle.words.proofs.Words.{word_straight, word-other}
use Rattle.words.proofs.get.Goals.{Else-width-eq4}
use Rattle.words.proofs.get.Goals as goal

-- the width that is left
eight : (c : Else-width-eq4) → c.args.width ≡ 8
eight c =
    served_eight _ c.requires.0 c.if-width-eq1.false c.if-width-eq2.false c.if-width-eq3.false c.if-width-eq4.false

pub little8-v-requires : goal.little8-v-requires
little8-v-requires c =
    omega (arith, eight (goal.at.little8-v-requires c).Else-width-eq4)

pub returns-then-le-4 : goal.returns-then-le-4
returns-then-le-4 c =
    let args = c.args in
    rw (eight (goal.at.returns-then-le-4 c).Else-width-eq4) (word_straight args.s.now args.at 8 args.le _ c.if-le-4.true c.little8-v.ensures)

pub returns-else-le-4 : goal.returns-else-le-4
returns-else-le-4 c =
    let bytes : Bytes c.args.s.now = λ i. omega (arith, c.type_inv.s i) in
    let args = c.args in
    rw (eight (goal.at.returns-else-le-4 c).Else-width-eq4) (word-other args.s.now args.at 8 args.le _ _ bytes c.if-le-4.false c.little8-v.ensures c.backwards8.ensures)
