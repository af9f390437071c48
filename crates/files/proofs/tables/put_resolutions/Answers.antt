-- `files::tables::put_resolutions` meets its contract: four numbers, one after another. Assumes nothing.
use native.Mathlib.Omega.{arith}
use mathlib.Core.Path.{refl, sym}
use mathlib.Core.List.{◌++◌}
use Rattle.files.specs.File.{numbers}
use Rattle.files.proofs.Holding.{holds_at, wrote_part}
use Rattle.files.proofs.Places.{holds_resolutions}
use Rattle.files.proofs.Writing.{laid, going, going_on, going_last}
use Rattle.files.proofs.tables.put_resolutions.Goals as goal

pub put_long-requires : goal.put_long-requires
put_long-requires c =
    omega (arith, laid c.requires, c.requires.room)

pub overflow_add-at : goal.overflow_add-at
overflow_add-at c =
    omega (arith, laid c.requires)

pub put_long-requires-2 : goal.put_long-requires-2
put_long-requires-2 c =
    omega (arith, laid c.requires, c.requires.room)

pub overflow_add-at-2 : goal.overflow_add-at-2
overflow_add-at-2 c =
    omega (arith, laid c.requires)

pub put_long-requires-3 : goal.put_long-requires-3
put_long-requires-3 c =
    omega (arith, laid c.requires, c.requires.room)

pub overflow_add-at-3 : goal.overflow_add-at-3
overflow_add-at-3 c =
    omega (arith, laid c.requires)

pub put_long-requires-4 : goal.put_long-requires-4
put_long-requires-4 c =
    omega (arith, laid c.requires, c.requires.room)

pub returns : goal.returns
returns c =
    let f = c.args.f in
    let p = c.args.p in
    let begun = going (numbers 4 2 (λ j. 1) ++ numbers 4 2 (λ j. 1)) p.resolutions c.args.out.now in
    wrote_part (holds_at (sym (laid c.requires).resolutions) (holds_resolutions f p.each)) refl (going_last 4 1 (going_on 4 1 (going_on 4 1 (going_on 4 1 begun (omega arith) c.put_long.ensures) refl c.put_long-2.ensures) refl c.put_long-3.ensures) refl c.put_long-4.ensures)
