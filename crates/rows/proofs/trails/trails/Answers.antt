-- `rows::trails::trails` meets its contract, at every width: what is stored up to `at` are the samples. Assumes nothing.
use Rattle.std.proofs.Common.{◌+◌, ◌≤◌, length, ap, ◌∙◌, arith}
use Rattle.words.specs.Word.{word_at, plus}
use Rattle.rows.proofs.Loops.{led_upto, trail_room, trail_turned}
use Rattle.rows.proofs.trails.trails.Goals.{In-loop-at}
use Rattle.rows.proofs.trails.trails.Goals as goal

-- a whole word is there
room : (c : In-loop-at) → c.loop-at.at + c.args.width ≤ length c.args.raw.now
room c =
    trail_room c.requires.1.fits c.loop-at.invariant.0 c.loop-at.invariant.1 c.loop-at-test.true

pub loop-at-init : goal.loop-at-init
loop-at-init c =
    (led_upto _ c.args.raw.now c.args.channels c.args.width _ c.args.out.now c.requires.1, omega arith)

pub sum-sample-requires : goal.sum-sample-requires
sum-sample-requires c =
    (c.requires.0, room (goal.at.sum-sample-requires c).In-loop-at)

pub put-requires : goal.put-requires
put-requires c =
    let free : c.loop-at.at + c.args.width ≤ length c.loop-at.out = omega (arith, room (goal.at.put-requires c).In-loop-at, c.loop-at.invariant.0.same, c.requires.1.fits.room) in
    (c.requires.0, omega (arith, free))

pub loop-at-preserved : goal.loop-at-preserved
loop-at-preserved c =
    let at = c.loop-at in
    let args = c.args in
    let w = args.width in
    let e = c.sum-sample.ensures ∙ ap (plus w (word_at args.raw.now at.at w args.le)) c.get.ensures in
    (trail_turned args.le c.requires.1.fits at.invariant.1 c.loop-at-test.true at.invariant.0 _ _ e c.put.ensures, omega arith)
