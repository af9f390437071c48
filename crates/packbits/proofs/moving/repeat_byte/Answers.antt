-- `packbits::moving::repeat_byte` meets its contract: a block whose front the bytes are, or they alone. Assumes nothing.
use native.Mathlib.Omega.{arith}
use Prim.Native.Nat.{◌+◌, ◌≤◌}
use lib.ListN.{length}
use Rattle.packbits.proofs.Placing.{repeat-placed, fits_block}
use Rattle.packbits.proofs.moving.repeat_byte.Goals as goal

pub returns-then-n-room : goal.returns-then-n-room
returns-then-n-room c =
    let small : let args = c.args in (args.n ≤ 32) × (args.to + 32 ≤ length args.out.now) = fits_block c.args.n 32 c.args.to _ (omega (arith, c.requires)) c.if-n-room.true in
    let fit = small in repeat-placed _ _ 32 _ _ fit.0 fit.1 c.repeat.ensures

pub returns-then-n-room-2 : goal.returns-then-n-room-2
returns-then-n-room-2 c =
    let middle : let args = c.args in (args.n ≤ 64) × (args.to + 64 ≤ length args.out.now) = fits_block c.args.n 64 c.args.to _ (omega (arith, c.requires)) c.if-n-room-2.true in
    let fit = middle in repeat-placed _ _ 64 _ _ fit.0 fit.1 c.repeat-then-n-room-2.ensures

pub returns-then-n-room-3 : goal.returns-then-n-room-3
returns-then-n-room-3 c =
    let large : let args = c.args in (args.n ≤ 128) × (args.to + 128 ≤ length args.out.now) = fits_block c.args.n 128 c.args.to _ (omega (arith, c.requires)) c.if-n-room-3.true in
    let fit = large in repeat-placed _ _ 128 _ _ fit.0 fit.1 c.repeat-then-n-room-3.ensures
