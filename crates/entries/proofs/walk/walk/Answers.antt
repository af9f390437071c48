-- `entries::walk::walk` meets its contract: each directory on the way is looked at. Assumes nothing.
use Prim.Native.Nat.{◌+◌}
use Rattle.answer.proofs.Promised.{refusing}
use Rattle.answer.proofs.Handed.{handed_outcome}
use Rattle.answer.specs.Outcome.{none}
use Rattle.entries.proofs.Walking.{walked, way_on, way_sound, way_stopped}
use Rattle.entries.specs.Entries.{on_the_way, place}
use Rattle.laws.proofs.Turns.{turn_first, turns_more}
use Rattle.laws.specs.Turns.{faults_below}
use mathlib.Core.Path.{◌≡◌}
use native.Mathlib.Omega.{arith}
use Rattle.std.proofs.Common.{◌∙◌}
use Rattle.entries.proofs.walk.walk.Goals as goal

pub loop-p-init : goal.loop-p-init
unfolding place
loop-p-init c =
    (c.long-at.ensures, none)

pub returns-in_err-d : goal.returns-in_err-d
returns-in_err-d c =
    let args = c.args in
    let file = args.file.now in
    let p = c.loop-p._p in
    handed_outcome _ _ c.from_residual.ensures ∙ refusing (faults_below (args.page + 1) (on_the_way file args.le)) _ (turn_first (args.page + 1) (on_the_way file args.le) p (omega (arith, c.loop-p-test.true)) c.loop-p.invariant.1 (way_stopped file args.le c.loop-p.at p c.open_at.result c.loop-p.invariant.0 c.open_at.ensures _ c.in_err-d.was))

pub loop-p-preserved : goal.loop-p-preserved
loop-p-preserved c =
    let args = c.args in
    let file = args.file.now in
    let p = c.loop-p._p in (
      way_on file args.le c.loop-p.at p c.open_at.result c.loop-p.invariant.0 c.open_at.ensures _ c.in_ok-d.was _ c.next_place-at.ensures,
      turns_more p (on_the_way file args.le) c.loop-p.invariant.1 (way_sound file args.le c.loop-p.at p c.open_at.result c.loop-p.invariant.0 c.open_at.ensures _ c.in_ok-d.was),
    )

pub returns : goal.returns
returns c =
    let args = c.args in
    let end : c.loop-p._p ≡ args.page = omega (arith, c.loop-p-test.false) in
    rw end at (walked args.file.now args.le c.loop-p.at c.loop-p._p c.open_at-2.result c.loop-p.invariant.0 c.open_at-2.ensures c.loop-p.invariant.1)
