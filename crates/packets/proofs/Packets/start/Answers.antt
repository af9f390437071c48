-- `packets::Packets::start` meets its promise: the strip check's faults, or the state of no bytes. Assumes nothing.
use mathlib.Core.Path.{◌≡◌, refl}
use mathlib.Core.List.{[]}
use Prim.Native.Nat.{◌/◌, ◌%◌}
use native.Mathlib.Nat.{zero-mod, zero-div}
use Rattle.answer.proofs.Promised.{passed}
use Rattle.samples.specs.Promises.{strip_faults}
use Rattle.packets.specs.State.{geometry, state_at}
use Rattle.packets.specs.Promises.{plan, nowhere}
use Rattle.packets.proofs.Bytewise.{tail_none, sums_none}
use Rattle.packets.proofs.Behind.{sane_sound}
use Rattle.packets.proofs.Answers.{begun-done}
use Rattle.packets.proofs.Packets.start.Goals as goal

pub returns-in-Ok : goal.returns-in-Ok
unfolding state_at nowhere
returns-in-Ok c =
    let p = c.args.plan in
    let sound = passed (strip_faults 0 (geometry p)) c.check_strip.result c.check_strip.ensures c.in-Ok.is in
    let sane = sane_sound p sound in
    let place : 0 / p.width % (p.row_bytes / p.width) ≡ 0 = rw (zero-div p.width) (zero-mod (p.row_bytes / p.width)) in
    begun-done sound refl (rw (c.nothing-state.ensures, tail_none p sane [] 0 (zero-mod p.width), sums_none p sane [] 0 place))
