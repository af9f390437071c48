-- `files::front::put_rest` meets its contract: entries 9 to 13, one behind the other. Assumes nothing.
use native.Mathlib.Omega.{arith}
use Prim.Native.Nat.{ℕ, ◌+◌, ◌≤◌}
use lib.ListN.{length}
use mathlib.Core.Path.{refl, ap}
use Rattle.files.proofs.Holding.{wrote_on}
use Rattle.files.proofs.Writing.{laid, entry_wrote}
use Rattle.files.proofs.front.put_rest.Goals.{After-put_entry-3}
use Rattle.files.proofs.front.put_rest.Goals as goal

-- the buffer is as long as it was
long : (c : After-put_entry-3) → 182 ≤ length c.put_entry-3.new.out
long c =
    omega (arith, laid c.requires, c.requires.room)

pub put_entry-requires : goal.put_entry-requires
put_entry-requires c =
    omega (arith, laid c.requires, c.requires.room)

pub overflow_add-p : goal.overflow_add-p
overflow_add-p c =
    omega (arith, laid c.requires)

pub put_entry-requires-2 : goal.put_entry-requires-2
put_entry-requires-2 c =
    omega (arith, laid c.requires, c.requires.room)

pub put_entry-requires-3 : goal.put_entry-requires-3
put_entry-requires-3 c =
    omega (arith, laid c.requires, c.requires.room)

pub put_entry-requires-4 : goal.put_entry-requires-4
put_entry-requires-4 c =
    omega (arith, long (goal.at.put_entry-requires-4 c).After-put_entry-3)

pub put_entry-requires-5 : goal.put_entry-requires-5
put_entry-requires-5 c =
    omega (arith, long (goal.at.put_entry-requires-5 c).After-put_entry-3)

pub returns : goal.returns
returns c =
    let f = c.args.f in
    let each = c.args.p.each in
    let k = laid c.requires in
    wrote_on (wrote_on (wrote_on (wrote_on
    (entry_wrote f each 9 c.put_entry.ensures (omega arith) refl k.resolutions) refl
    (entry_wrote f each 10 c.put_entry-2.ensures (omega arith) refl (ap (λ (n : ℕ). n + 8) k.resolutions))) refl
    (entry_wrote f each 11 c.put_entry-3.ensures (omega arith) refl c.planar.ensures)) refl
    (entry_wrote f each 12 c.put_entry-4.ensures (omega arith) refl refl)) refl
    (entry_wrote f each 13 c.put_entry-5.ensures (omega arith) refl refl)
