-- `files::front::put_header` meets its contract: three numbers of the header, and one of the directory. Assumes nothing.
use native.Mathlib.Omega.{arith}
use mathlib.Core.Path.{refl}
use Rattle.entries.specs.Entries.{II}
use Rattle.files.specs.File.{entry_count, header}
use Rattle.files.proofs.Holding.{wrote_on, wrote_part, wrote-number}
use Rattle.files.proofs.Places.{holds_header, holds_count}
use Rattle.files.proofs.Writing.{laid, going, going_on, going_last}
use Rattle.files.proofs.front.put_header.Goals as goal

pub put_short-requires : goal.put_short-requires
put_short-requires c =
    omega (arith, laid c.requires, c.requires.room)

pub put_short-requires-2 : goal.put_short-requires-2
put_short-requires-2 c =
    omega (arith, laid c.requires, c.requires.room)

pub put_long-requires : goal.put_long-requires
put_long-requires c =
    omega (arith, laid c.requires, c.requires.room)

pub put_short-requires-3 : goal.put_short-requires-3
put_short-requires-3 c =
    omega (arith, laid c.requires, c.requires.room)

pub returns : goal.returns
returns c =
    let f = c.args.f in
    let each = c.args.p.each in
    wrote_on (wrote_part (holds_header f each) refl (going_last 4 8 (going_on 2 42 (going_on 2 II (going header 0 c.args.out.now) refl c.put_short.ensures) refl c.put_short-2.ensures) refl c.put_long.ensures)) refl (wrote-number 2 (entry_count f) (holds_count f each) (rw (laid c.requires).entries at c.put_short-3.ensures))
