-- `entries::field_from` meets its contract: the entry at which the search ended, or the default. Assumes nothing.
use Rattle.entries.specs.Entries.{directory_end, field_from}
use borrow.Author.Tests.{le-ltb, lt-ltb}
use lib.Dec.{ltb}
use lib.ListN.{length}
use mathlib.Core.Bool.{false}
use mathlib.Core.Path.{◌∙◌, ◌≡◌, sym}
use native.Mathlib.Omega.{arith}
use Rattle.entries.proofs.field_from.Goals.{After-seek-i}
use Rattle.entries.proofs.field_from.Goals as goal

-- past the test of the directory's end, with the entry at which the search ended
whole : (c : After-seek-i) → let args = c.args in ltb (length args.file.now) (directory_end args.d) ≡ false
whole c =
    let args = c.args in le-ltb (length args.file.now) (directory_end args.d) (omega (arith, c.if-file-d.false))

pub returns-then-file-d : goal.returns-then-file-d
unfolding field_from
returns-then-file-d c =
    let args = c.args in rw (lt-ltb (length args.file.now) (directory_end args.d) (omega (arith, c.if-file-d.true))) c.missing.ensures

pub returns-then-is_there : goal.returns-then-is_there
unfolding field_from
returns-then-is_there c =
    rw ((whole (goal.at.returns-then-is_there c).After-seek-i), ← c.seek-i.ensures) (rw (sym c.is_there.ensures ∙ c.if-is_there.true) c.field_at.ensures)

pub returns-else-is_there : goal.returns-else-is_there
unfolding field_from
returns-else-is_there c =
    rw ((whole (goal.at.returns-else-is_there c).After-seek-i), ← c.seek-i.ensures) (rw (sym c.is_there.ensures ∙ c.if-is_there.false) c.missing-else-is_there.ensures)
