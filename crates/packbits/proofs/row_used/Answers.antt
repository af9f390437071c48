-- `packbits::row_used` meets its promise: the first packet that has a fault decides. Assumes nothing.
use native.Mathlib.Nat.{sub-zero}
use native.Mathlib.Omega.{arith}
use Rattle.std.proofs.Common.{sym, ◌∙◌, ◌+◌, ◌<◌, ◌≤◌, length}
use Rattle.answer.specs.Outcome.{Sound}
use Rattle.answer.proofs.Promised.{refusing, step-first, step-sound}
use Rattle.packbits.specs.Rows.{Packet, packet_faults, row_faults}
use Rattle.packbits.specs.Parts.{begun, header_fills, header_takes}
use Rattle.packbits.proofs.Packets.{looked_first, looked_past, looked_end, fits-at, fits_said, looked_said, WholeLiteral, whole_literal-is, Nothing, nothing_is}
use Rattle.answer.proofs.Handed.{handed_outcome}
use Rattle.packbits.proofs.Onward.{finishing_as}
use Rattle.packbits.proofs.row_used.Goals.{In_ok-check_packet, After-from-header}
use Rattle.packbits.proofs.row_used.Goals as goal

sound : (c : In_ok-check_packet) → let begun_at : Packet = begun c.args.packed.now c.loop-left.at c.loop-left.left in Sound (packet_faults begun_at)
sound c =
    step-sound c.check_packet.ensures c.in_ok-check_packet.was

fit : (c : After-from-header) → let at = c.loop-left.at in let h = c.from-header.result in (at < length c.args.packed.now) × (0 < header_takes h) × (header_fills h ≤ c.loop-left.left) × (at + header_takes h ≤ length c.args.packed.now)
fit c =
    fits_said _ _ _ c.from-header.ensures (step-sound c.check_packet.ensures c.in_ok-check_packet.was)

pub loop-left-preserved-then-whole_literal : goal.loop-left-preserved-then-whole_literal
loop-left-preserved-then-whole_literal c =
    let whole : WholeLiteral c.args.packed.now c.loop-left.at c.loop-left.left = whole_literal-is _ _ _ (sym c.whole_literal.ensures ∙ c.if-whole_literal.true) in
    let is = whole in looked_past c.loop-left.invariant c.loop-left-test.true is.kind (omega (arith, is)) is.fits is.there

pub loop-left-preserved-then-does_nothing : goal.loop-left-preserved-then-does_nothing
loop-left-preserved-then-does_nothing c =
    let nothing : Nothing c.args.packed.now c.loop-left.at = nothing_is _ _ (sym c.does_nothing.ensures ∙ c.if-does_nothing.true) in
    let is = nothing in
    rw (sub-zero c.loop-left.left) at (looked_past c.loop-left.invariant c.loop-left-test.true is.kind is.inside (omega arith) (omega (arith, is.inside)))

pub returns-in_err-check_packet : goal.returns-in_err-check_packet
returns-in_err-check_packet c =
    let args = c.args in
    handed_outcome _ _ c.from_residual.ensures ∙ refusing (row_faults args.packed.now args.row_bytes) _ (looked_first c.loop-left.invariant c.loop-left-test.true (step-first c.check_packet.ensures c.in_err-check_packet.was))

pub bounds-packed-at : goal.bounds-packed-at
bounds-packed-at c =
    omega (arith, fits-at c.args.packed.now c.loop-left.at c.loop-left.left (sound (goal.at.bounds-packed-at c).In_ok-check_packet))

pub overflow_sub-left-else-does_nothing : goal.overflow_sub-left-else-does_nothing
overflow_sub-left-else-does_nothing c =
    omega (arith, fit (goal.at.overflow_sub-left-else-does_nothing c).After-from-header, c.fills-left.ensures)

pub overflow_add-at-else-does_nothing : goal.overflow_add-at-else-does_nothing
overflow_add-at-else-does_nothing c =
    omega (arith, fit (goal.at.overflow_add-at-else-does_nothing c).After-from-header, c.takes-at.ensures)

pub loop-left-smaller : goal.loop-left-smaller
loop-left-smaller c =
    omega (arith, fit (goal.at.loop-left-smaller c).After-from-header, c.takes-at.ensures)

pub loop-left-preserved : goal.loop-left-preserved
loop-left-preserved c =
    rw (c.takes-at.ensures, c.fills-left.ensures) (looked_said _ _ _ c.from-header.ensures (sound (goal.at.loop-left-preserved c).In_ok-check_packet) c.loop-left.invariant c.loop-left-test.true)

pub returns : goal.returns
returns c =
    let args = c.args in
    let end = looked_end c.loop-left.invariant (omega (arith, c.loop-left-test.false)) in
    finishing_as (row_faults args.packed.now args.row_bytes) end.0 (sym end.1)
