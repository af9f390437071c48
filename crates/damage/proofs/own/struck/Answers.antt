-- `damage::own::struck` meets its contract: each arm joins its width's bytes, and a width that is none of the first four is 8. Assumes nothing.
use mathlib.Core.Path.{◌≡◌, ap, ◌∙◌}
use mathlib.Core.Bool.{true, not}
use native.Mathlib.Omega.{arith}
use Prim.Native.Nat.{ℕ, ◌+◌}
use mathlib.Core.List.{List}
use lib.Dec.{eqb}
use Rattle.words.specs.Word.{word_at}
use Rattle.words.proofs.Served.{served_eight}
use Rattle.damage.specs.Marks.{struck_at}
use Rattle.damage.proofs.Marking.{struck_byte, struck-word, struck-after}
use Rattle.damage.proofs.own.struck.Goals.{Else-width-eq4}
use Rattle.damage.proofs.own.struck.Goals as goal

-- a word that was read tells whether its bytes are struck
told : (width : ℕ) (damage : List ℕ) (at : ℕ) {x : ℕ} → x ≡ word_at damage at width true → not (eqb x 0) ≡ struck_at width damage at
told width damage at e = ap (λ (w : ℕ). not (eqb w 0)) e ∙ struck-word width damage at

-- the width that is left
eight : (c : Else-width-eq4) → c.args.width ≡ 8
eight c =
    served_eight _ c.requires.0 c.if-width-eq1.false c.if-width-eq2.false c.if-width-eq3.false c.if-width-eq4.false

pub word4-requires-else-width-eq4 : goal.word4-requires-else-width-eq4
word4-requires-else-width-eq4 c =
    omega (arith, eight (goal.at.word4-requires-else-width-eq4 c).Else-width-eq4, c.requires.1)

pub word4-requires-else-width-eq4-2 : goal.word4-requires-else-width-eq4-2
word4-requires-else-width-eq4-2 c =
    omega (arith, eight (goal.at.word4-requires-else-width-eq4-2 c).Else-width-eq4, c.requires.1)

pub returns-then-width-eq1 : goal.returns-then-width-eq1
returns-then-width-eq1 c =
    let args = c.args in rw c.if-width-eq1.true (struck_byte args.damage.now args.at)

pub returns-then-width-eq2 : goal.returns-then-width-eq2
returns-then-width-eq2 c =
    let args = c.args in rw c.if-width-eq2.true (told 2 args.damage.now args.at c.word2.ensures)

pub returns-then-width-eq3 : goal.returns-then-width-eq3
returns-then-width-eq3 c =
    let args = c.args in rw c.if-width-eq3.true (told 3 args.damage.now args.at c.word3.ensures)

pub returns-then-width-eq4 : goal.returns-then-width-eq4
returns-then-width-eq4 c =
    let args = c.args in rw c.if-width-eq4.true (told 4 args.damage.now args.at c.word4.ensures)

pub returns-else-width-eq4 : goal.returns-else-width-eq4
returns-else-width-eq4 c =
    let args = c.args in
    let damage = args.damage.now in
    rw (eight (goal.at.returns-else-width-eq4 c).Else-width-eq4) (rw (told 4 damage args.at c.word4-else-width-eq4.ensures, told 4 damage (args.at + 4) c.word4-else-width-eq4-2.ensures) (struck-after 4 4 damage args.at))
