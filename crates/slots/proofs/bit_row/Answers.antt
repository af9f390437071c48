-- `slots::bit_row` meets its promise: whole bytes, then the row's last columns. Assumes nothing.
use borrow.Author.Tests.{le-ltb}
use Prim.Native.Nat.{◌+◌, ◌*◌, ◌/◌, ◌<◌}
use mathlib.Core.Path.{◌≡◌, refl, ◌∙◌}
use mathlib.Core.Logic.{inr}
use Rattle.slots.proofs.Packing.{part_byte}
use native.Mathlib.Omega.{arith}
use lib.ListN.{length}
use Rattle.answer.specs.Outcome.{next, none, Sound}
use Rattle.answer.proofs.Promised.{finishes}
use Rattle.slots.specs.Rows.{eighths, bits_at, bit_faults}
use Rattle.laws.proofs.Lists.{filled-one}
use Rattle.slots.proofs.bit_row.Goals as goal

pub returns-then-rest-gt0 : goal.returns-then-rest-gt0
unfolding bits_at
returns-then-rest-gt0 c =
    let room_left : let args = c.args in Sound (bit_faults args.picture.now args.out.now) = let args = c.args in
    next (le-ltb (length args.out.now) (eighths (length args.picture.now)) (omega (arith, c.eighths.ensures, c.if-out-eighths.false))) none in
    let args = c.args in
    let picture = args.picture.now in
    let f = bits_at args.white picture in
    let old = args.out.now in
    let n = length picture in
    let byte : c.byte.result ≡ f (n / 8) = c.byte.ensures ∙ part_byte args.white picture (8 * (n / 8)) n (omega arith) (omega arith) (inr refl) in
    let all : n / 8 + 1 ≡ eighths n = omega (arith, c.if-rest-gt0.true) in
    let room : n / 8 < length old = omega (arith, c.eighths.ensures, c.if-out-eighths.false, c.if-rest-gt0.true) in
    finishes (bit_faults picture old) tt (eighths n) f old _ room_left (rw all at (filled-one f old (n / 8) c.whole_bits.ensures byte room))
