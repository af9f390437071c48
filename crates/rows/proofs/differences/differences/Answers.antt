-- `rows::differences::differences` meets its contract, at every width: what is stored up to `at` are the differences. Assumes nothing.
use Rattle.std.proofs.Common.{ℕ, ◌+◌, ◌≤◌, length, ap, ◌∙◌, arith}
use Rattle.words.specs.Word.{Bytes, word_at, minus}
use Rattle.words.proofs.Words.{word_below}
use Rattle.rows.proofs.Loops.{led_upto, trail_room, difference_turned}
use Rattle.rows.proofs.differences.differences.Goals.{In-loop-at}
use Rattle.rows.proofs.differences.differences.Goals as goal

-- a whole word is there
room : (c : In-loop-at) → c.loop-at.at + c.args.width ≤ length c.args.raw.now
room c =
    trail_room c.requires.1.fits c.loop-at.invariant.0 c.loop-at.invariant.1 c.loop-at-test.true

pub loop-at-init : goal.loop-at-init
loop-at-init c =
    (led_upto _ c.args.raw.now c.args.channels c.args.width _ c.args.out.now c.requires.1, omega arith)

pub get-requires : goal.get-requires
get-requires c =
    (c.requires.0, room (goal.at.get-requires c).In-loop-at)

pub sub-less-requires : goal.sub-less-requires
sub-less-requires c =
    let bytes : Bytes c.args.raw.now = λ i. omega (arith, c.type_inv.raw i) in
    let args = c.args in
    (c.requires.0, rw c.get-in-loop-at.ensures (word_below args.raw.now _ args.width args.le bytes))

pub put-requires : goal.put-requires
put-requires c =
    (c.requires.0, omega (arith, room (goal.at.put-requires c).In-loop-at, c.loop-at.invariant.0.same, c.requires.1.fits.room))

pub loop-at-preserved : goal.loop-at-preserved
loop-at-preserved c =
    let at = c.loop-at in
    let args = c.args in
    let w = args.width in
    let e =
    c.sub-less.ensures
    ∙ ap (λ (x : ℕ). minus w x c.get-in-loop-at.result) c.get.ensures
    ∙ ap (minus w (word_at args.raw.now at.at w args.le)) c.get-in-loop-at.ensures in
    (difference_turned args.le c.requires.1.fits at.invariant.1 c.loop-at-test.true at.invariant.0 _ _ e c.put.ensures, omega arith)
