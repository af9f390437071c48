-- `files::front::put_split` meets its contract: entries 5 to 8, one behind the other. Assumes nothing.
use native.Mathlib.Omega.{arith}
use Prim.Native.Nat.{ℕ}
use mathlib.Core.Path.{refl, ap, ◌∙◌}
use Rattle.answer.specs.Outcome.{pick}
use Rattle.files.specs.File.{in_entry}
use Rattle.files.proofs.Holding.{wrote_on}
use Rattle.files.proofs.Rows.{offsets_last_lem, counts_last_lem}
use Rattle.files.proofs.Sizes.{strip-limit}
use Rattle.files.proofs.Writing.{laid, entry_wrote}
use Rattle.files.proofs.front.put_split.Goals as goal

pub strip_bytes-requires : goal.strip_bytes-requires
strip_bytes-requires c =
    rw (laid c.requires).row (strip-limit c.args.f c.args.p.each c.requires.fit)

pub put_entry-requires : goal.put_entry-requires
put_entry-requires c =
    omega (arith, laid c.requires, c.requires.room)

pub put_entry-requires-2 : goal.put_entry-requires-2
put_entry-requires-2 c =
    omega (arith, laid c.requires, c.requires.room)

pub put_entry-requires-3 : goal.put_entry-requires-3
put_entry-requires-3 c =
    omega (arith, laid c.requires, c.requires.room)

pub put_entry-requires-4 : goal.put_entry-requires-4
put_entry-requires-4 c =
    omega (arith, laid c.requires, c.requires.room)

pub returns : goal.returns
returns c =
    let f = c.args.f in
    let p = c.args.p in
    let each = p.each in
    let k = laid c.requires in
    wrote_on (wrote_on (wrote_on
    (entry_wrote f each 5 c.put_entry.ensures (omega arith) k.strips_said (c.strips_last-offsets.ensures ∙ offsets_last_lem k)) refl
    (entry_wrote f each 6 c.put_entry-2.ensures (omega arith) refl refl)) refl
    (entry_wrote f each 7 c.put_entry-3.ensures (omega arith) refl refl)) refl
    (entry_wrote f each 8 c.put_entry-4.ensures (omega arith) k.strips_said (c.strips_last-counts.ensures ∙ ap (λ (n : ℕ). pick (in_entry 4 p.strips) n p.counts) c.strip_bytes.ensures ∙ counts_last_lem k))
