-- `entries::walk::ascending` meets its contract: each tag is held against the one before it. Assumes nothing.
use Rattle.std.proofs.Common.{◌≡◌, ◌+◌, ◌-◌, ℕ, true, false, refl, sym, ap, ◌∙◌, arith}
use borrow.Author.Tests.{lt-ltb, le-ltb}
use Rattle.entries.specs.Entries.{ascending}
use Rattle.laws.specs.Turns.{every}
use Rattle.laws.proofs.Turns.{every_more}
use Rattle.laws.proofs.Says.{one_fails}
use Rattle.entries.proofs.walk.ascending.Invariants.{below_next}
use Rattle.entries.proofs.walk.ascending.Goals as goal

pub loop-i-preserved : goal.loop-i-preserved
loop-i-preserved c =
    let i = c.loop-i.i in
    let t = below_next c.args.file.now c.args.d in
    let before : i - 1 + 1 ≡ i = omega (arith, c.loop-i.invariant.0) in
    let now : t (i - 1) ≡ true = rw (before, ← c.tag_at.ensures, ← c.tag_at-in-loop-i.ensures) (lt-ltb _ _ c.if-tag_at.false) in
    let same : i + 1 - 1 ≡ i - 1 + 1 = omega (arith, c.loop-i.invariant.0) in
    (omega arith, omega (arith, c.loop-i-test.true), ap (λ (n : ℕ). every n t) same ∙ sym (every_more (i - 1) t (sym c.loop-i.invariant.2) (sym now)))

pub returns-then-tag_at : goal.returns-then-tag_at
unfolding ascending
returns-then-tag_at c =
    let i = c.loop-i.i in
    let t = below_next c.args.file.now c.args.d in
    let before : i - 1 + 1 ≡ i = omega (arith, c.loop-i.invariant.0) in
    let now : t (i - 1) ≡ false = rw (before, ← c.tag_at.ensures, ← c.tag_at-in-loop-i.ensures) (le-ltb _ _ c.if-tag_at.true) in
    sym (one_fails (λ m. every m t) t (λ m. refl) (c.args.d.n - 1) (i - 1) (omega (arith, c.loop-i.invariant.0, c.loop-i-test.true)) now)

pub returns : goal.returns
unfolding ascending
returns c =
    let end : c.loop-i.i - 1 ≡ c.args.d.n - 1 = omega (arith, c.loop-i.invariant.1, c.loop-i-test.false) in
    rw end at (sym c.loop-i.invariant.2)
