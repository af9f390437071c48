-- `files::front::put_end` meets its contract: with alpha entry 14, and behind the entries 0. Assumes nothing.
use native.Mathlib.Omega.{arith}
use mathlib.Core.Path.{◌≡◌, refl}
use Prim.Native.Nat.{◌-◌}
use Rattle.files.proofs.Holding.{holds_at, wrote_on, wrote-number}
use Rattle.files.proofs.Places.{holds_next}
use Rattle.files.proofs.Writing.{laid, entry_wrote}
use Rattle.files.proofs.front.put_end.Goals as goal

pub put_entry-requires : goal.put_entry-requires
put_entry-requires c =
    omega (arith, laid c.requires, c.requires.room, c.if-p-eq15.true)

pub put_long-requires : goal.put_long-requires
put_long-requires c =
    omega (arith, laid c.requires, c.requires.room, c.if-p-eq15.true)

pub put_long-requires-else-p-eq15 : goal.put_long-requires-else-p-eq15
put_long-requires-else-p-eq15 c =
    omega (arith, laid c.requires, c.requires.room)

pub returns-then-p-eq15 : goal.returns-then-p-eq15
returns-then-p-eq15 c =
    let f = c.args.f in
    let p = c.args.p in
    let k = laid c.requires in
    let all : p.entries ≡ 15 = c.if-p-eq15.true in
    let size : p.bits - 178 ≡ 16 = omega arith in
    rw size (wrote_on (entry_wrote f p.each 14 c.put_entry.ensures (omega arith) refl refl) refl (wrote-number 4 0 (holds_at (omega arith) (holds_next f p.each)) c.put_long.ensures))

pub returns-else-p-eq15 : goal.returns-else-p-eq15
returns-else-p-eq15 c =
    let f = c.args.f in
    let p = c.args.p in
    let k = laid c.requires in
    let all : p.entries ≡ 14 = omega (arith, c.if-p-eq15.false) in
    let size : p.bits - 178 ≡ 4 = omega arith in
    rw size (wrote-number 4 0 (holds_at (omega arith) (holds_next f p.each)) c.put_long-else-p-eq15.ensures)
