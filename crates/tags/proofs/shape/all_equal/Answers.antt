-- `tags::shape::all_equal` meets its contract: each value is held against the first. Assumes nothing.
use Rattle.std.proofs.Common.{◌≡◌, false, refl, sym}
use Rattle.laws.specs.Turns.{every}
use borrow.Author.Tests.{ne_eqb}
use Rattle.laws.proofs.Says.{one_fails}
use Rattle.tags.proofs.shape.all_equal.Invariants.{same_as_first}
use Rattle.tags.proofs.shape.all_equal.Goals as goal

pub returns-then-value-first : goal.returns-then-value-first
returns-then-value-first c =
    let args = c.args in
    let t = same_as_first args.file.now args.le args.bits in
    let other : t c.loop-j.j ≡ false = rw (← c.value.ensures, ← c.value-first.ensures) (ne_eqb _ _ c.if-value-first.true) in
    sym (one_fails (λ m. every m t) t (λ m. refl) args.bits.count c.loop-j.j c.loop-j-test.true other)
