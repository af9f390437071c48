-- `packets::check::passes` meets its contract: the tests are the check's, in its order. Assumes nothing.
use borrow.Author.Tests.{lt-ltb, le-ltb}
use mathlib.Core.Path.{◌≡◌, sym, ◌∙◌}
use mathlib.Core.Bool.{true}
use Prim.Native.Nat.{◌/◌, ◌%◌}
use Rattle.answer.specs.Outcome.{Sound}
use Rattle.answer.proofs.Promised.{no_error, some_error}
use Rattle.samples.specs.Promises.{strip_faults}
use Rattle.packets.specs.declared.Plan.{Plan}
use Rattle.packets.specs.declared.Packets.{Packets}
use Rattle.packets.specs.State.{geometry, most, consistent}
use Rattle.packets.specs.Promises.{plan, state}
use Rattle.packets.proofs.Bytewise.{Sane}
use Rattle.packets.proofs.Behind.{sane_sound, row-place}
use Rattle.packets.proofs.Checking.{sound-clear, first-clear}
use Rattle.packets.proofs.check.passes.Goals.{Else-is_err}
use Rattle.packets.proofs.check.passes.Goals as goal

-- the geometry is a start's
checked : (c : Else-is_err) → let asked : Plan = let args = c.args in plan args.row_bytes args.channels args.width true args.predict true in let given : Packets = let args = c.args in state asked args.received args.tail.now args.sums.now in Sound (strip_faults 0 (geometry given.plan))
checked c =
    let asked : Plan = let args = c.args in plan args.row_bytes args.channels args.width true args.predict true in
    let given : Packets = let args = c.args in state asked args.received args.tail.now args.sums.now in
    no_error (strip_faults 0 (geometry given.plan)) c.check_strip.result c.check_strip.ensures (sym c.is_err.ensures.value ∙ c.if-is_err.false)

pub returns-then-received-gt1073741824 : goal.returns-then-received-gt1073741824
unfolding consistent
returns-then-received-gt1073741824 c =
    sym (rw (sound-clear (checked (goal.at.returns-then-received-gt1073741824 c).Else-is_err), lt-ltb most _ c.if-received-gt1073741824.true))

pub returns-then-not-tail_right : goal.returns-then-not-tail_right
unfolding consistent
returns-then-not-tail_right c =
    sym (rw (sound-clear (checked (goal.at.returns-then-not-tail_right c).Else-is_err), le-ltb most _ c.if-received-gt1073741824.false, ← c.past.ensures, ← c.tail_right.ensures, c.if-not-tail_right.true))

pub returns-then-is_err : goal.returns-then-is_err
unfolding consistent
returns-then-is_err c =
    let asked : Plan = let args = c.args in plan args.row_bytes args.channels args.width true args.predict true in
    let p = asked in
    let error = some_error (strip_faults 0 (geometry p)) c.check_strip.result c.check_strip.ensures (sym c.is_err.ensures.value ∙ c.if-is_err.true) in
    sym (rw (first-clear error.1))

pub returns : goal.returns
unfolding consistent
returns c =
    let asked : Plan = let args = c.args in plan args.row_bytes args.channels args.width true args.predict true in
    let given : Packets = let args = c.args in state asked args.received args.tail.now args.sums.now in
    let plan_sane : Sane given.plan = sane_sound given.plan (checked (goal.at.returns c).Else-is_err) in
    let st = given in
    let place : c.whole.result ≡ st.received / st.plan.width % (st.plan.row_bytes / st.plan.width) = c.whole.ensures ∙ row-place st.plan plan_sane st.received in
    sym
    (rw
    (sound-clear (checked (goal.at.returns c).Else-is_err), le-ltb most _ c.if-received-gt1073741824.false, ← c.past.ensures, ← c.tail_right.ensures, c.if-not-tail_right.false, ← place, ← c.begun_channels-begun.ensures)
    (sym c.sums_right.ensures))
