-- `packets::lent_piece` meets its promise: the faults in order, then the bytes. Assumes nothing.
use borrow.Author.Tests.{lt-ltb, le-ltb}
use native.Mathlib.Omega.{arith}
use Prim.Native.Nat.{◌+◌, ◌-◌, ◌≤◌, ◌<◌}
use mathlib.Core.Path.{◌≡◌, refl, ap, ◌∙◌}
use mathlib.Core.Bool.{true, not}
use lib.ListN.{length}
use Rattle.answer.specs.Outcome.{done, Sound, here, later, next, none}
use Rattle.packets.specs.State.{consistent, most}
use Rattle.packets.specs.Promises.{state, completes, lent_faults}
use Rattle.packets.proofs.Checking.{order_checked}
use Rattle.packets.proofs.Behind.{Passed, passed, sane_sound}
use Rattle.packets.proofs.Cut.{completes-is}
use Rattle.packets.proofs.Wordstart.{width_served}
use Rattle.packets.proofs.Answers.{lent-first, lent-sound, lent-refused, lent-done}
use Rattle.packets.proofs.lent_piece.Goals.{After-past-2, Else-not-passes, Else-received-bytes}
use Rattle.packets.proofs.lent_piece.Goals as goal

passes : (c : Else-not-passes) → consistent (state c.args.plan c.args.received c.args.tail.now c.args.sums.now) ≡ true
passes c = let args = c.args in order_checked args.plan args.received args.tail.now args.sums.now c.passes.ensures ∙ c.if-not-passes.false

known : (c : Else-not-passes) → Passed (state c.args.plan c.args.received c.args.tail.now c.args.sums.now)
known c = passed _ (passes c)

-- within the limit
fits : (c : Else-received-bytes) → c.args.received ≤ most → c.args.received + length c.args.bytes.now ≤ most
fits c short = omega (arith, short, c.if-received-bytes.false)

-- what is counted is what is completed
counted : (c : After-past-2) → Passed (state c.args.plan c.args.received c.args.tail.now c.args.sums.now) → c.past.result + length c.args.bytes.now - c.past-2.result ≡ completes (state c.args.plan c.args.received c.args.tail.now c.args.sums.now) (length c.args.bytes.now)
counted c is = completes-is (state c.args.plan c.args.received c.args.tail.now c.args.sums.now) (sane_sound c.args.plan is.sound).good.wide (length c.args.bytes.now) c.past.ensures c.past-2.ensures

pub returns-then-not-passes : goal.returns-then-not-passes
returns-then-not-passes c =
    let args = c.args in
    let fails = order_checked args.plan args.received args.tail.now args.sums.now c.passes.ensures ∙ c.if-not-passes.true in
    lent-refused (lent-first (state c.args.plan c.args.received c.args.tail.now c.args.sums.now) args.bytes.now args.out.now c.if-tail-ne8.false c.if-sums-ne64.false (here (ap not fails))) refl

pub overflow_sub-received : goal.overflow_sub-received
overflow_sub-received c = (known (goal.at.overflow_sub-received c).Else-not-passes).short

pub returns-then-received-bytes : goal.returns-then-received-bytes
returns-then-received-bytes c =
    let at = goal.at.returns-then-received-bytes c in
    let over : most < c.args.received + length c.args.bytes.now = omega (arith, (known at.Else-not-passes).short, c.if-received-bytes.true) in
    lent-refused (lent-first (state c.args.plan c.args.received c.args.tail.now c.args.sums.now) c.args.bytes.now c.args.out.now c.if-tail-ne8.false c.if-sums-ne64.false (later (ap not (passes at.Else-not-passes)) (here (lt-ltb most _ over)))) refl

pub past-requires : goal.past-requires
past-requires c = width_served _ (passes (goal.at.past-requires c).Else-not-passes)

pub past-requires-2 : goal.past-requires-2
past-requires-2 c = width_served _ (passes (goal.at.past-requires-2 c).Else-not-passes)

pub returns-then-out-completes : goal.returns-then-out-completes
returns-then-out-completes c =
    let at = goal.at.returns-then-out-completes c in
    let is = known at.Else-not-passes in
    let tight : length c.args.out.now < completes (state c.args.plan c.args.received c.args.tail.now c.args.sums.now) (length c.args.bytes.now) = rw (← counted at.After-past-2 is) c.if-out-completes.true in
    lent-refused (lent-first (state c.args.plan c.args.received c.args.tail.now c.args.sums.now) c.args.bytes.now c.args.out.now c.if-tail-ne8.false c.if-sums-ne64.false (later (ap not (passes at.Else-not-passes)) (later (le-ltb most _ (fits at.Else-received-bytes is.short)) (here (lt-ltb _ _ tight))))) refl

pub feed-requires : goal.feed-requires
feed-requires c =
    let at = goal.at.feed-requires c in
    let is = known at.Else-not-passes in
    record {
      passes = passes at.Else-not-passes;
      tails = c.if-tail-ne8.false;
      sums = c.if-sums-ne64.false;
      fits = fits at.Else-received-bytes is.short;
      room = rw (← counted at.After-past-2 is) c.if-out-completes.false;
    }

pub returns : goal.returns
returns c =
    let at = goal.at.returns c in
    let is = known at.Else-not-passes in
    let count = counted at.After-past-2 is in
    let room : completes (state c.args.plan c.args.received c.args.tail.now c.args.sums.now) (length c.args.bytes.now) ≤ length c.args.out.now = rw (← count) c.if-out-completes.false in
    let sound : Sound (lent_faults (state c.args.plan c.args.received c.args.tail.now c.args.sums.now) c.args.bytes.now c.args.out.now) = lent-sound (state c.args.plan c.args.received c.args.tail.now c.args.sums.now) c.args.bytes.now c.args.out.now c.if-tail-ne8.false c.if-sums-ne64.false (next (ap not (passes at.Else-not-passes)) (next (le-ltb most _ (fits at.Else-received-bytes is.short)) (next (le-ltb _ _ room) none))) in
    lent-done sound (ap done count) c.feed.ensures
