-- `slots::bilevel_row` meets its promise: whole bytes' columns, then the rest. Assumes nothing.
use borrow.Author.Tests.{le-ltb}
use Prim.Native.Nat.{◌+◌, ◌*◌, ◌/◌, ◌%◌}
use mathlib.Core.Path.{◌≡◌}
use native.Mathlib.Omega.{arith}
use lib.ListN.{length}
use Rattle.answer.specs.Outcome.{next, none, Sound}
use Rattle.answer.proofs.Promised.{finishes}
use Rattle.slots.specs.Rows.{eighths, bilevel_at, bilevel_faults}
use Rattle.slots.proofs.Spreading.{spread_filled}
use Rattle.slots.proofs.bilevel_row.Goals as goal

pub returns-then-rest-gt0 : goal.returns-then-rest-gt0
returns-then-rest-gt0 c =
    let enough : let args = c.args in Sound (bilevel_faults args.raw.now args.out.now) = let args = c.args in
    next (le-ltb (length args.raw.now) (eighths (length args.out.now)) (omega (arith, c.eighths.ensures, c.if-raw-eighths.false))) none in
    let raw = c.args.raw.now in
    let white = c.args.white in
    let old = c.args.out.now in
    let n = length old in
    let all : 8 * (n / 8) + n % 8 ≡ n = omega arith in
    let byte = c.flip.ensures in
    let small = c.type_inv.raw (n / 8) in
    let put = spread_filled raw white old _ _ (n / 8) (n % 8) (omega arith) (omega arith) (omega (arith, small)) c.spread_whole.ensures (rw byte at c.spread.ensures) in
    finishes (bilevel_faults raw old) tt n (bilevel_at white raw) old _ enough (rw all at put)
