-- `damage::pixel::pixel_struck` meets its contract: the invariant and its laws are in proofs/Begins.antt. Assumes nothing.
use native.Mathlib.Omega.{arith}
use Prim.Native.Nat.{◌+◌, ◌≤◌}
use lib.ListN.{length}
use Rattle.words.proofs.Served.{served-some}
use Rattle.damage.proofs.Begins.{struck-room}
use Rattle.damage.proofs.pixel.pixel_struck.Goals as goal

pub nonzero_rem-at : goal.nonzero_rem-at
nonzero_rem-at c =
    (served-some _ c.requires.takes).0

pub mark_at-requires : goal.mark_at-requires
mark_at-requires c =
    let room : let args = c.args in c.loop-looked.at + args.width ≤ length args.damage.now = struck-room c.loop-looked.invariant c.requires.whole (omega (arith, c.if-damage-at.false)) in
    (c.requires.takes, room)
