-- `entries::seek` meets its contract: lower tags are passed over. Assumes nothing.
use Rattle.entries.proofs.Seeking.{seek-on, seek_over}
use Rattle.entries.specs.Entries.{entry_from, tag_at}
use mathlib.Core.Path.{◌∙◌, sym}
use native.Mathlib.Omega.{arith}
use Rattle.std.proofs.Common.{◌≡◌}
use Rattle.entries.proofs.seek.Goals as goal

pub returns-then-tag-tag_at : goal.returns-then-tag-tag_at
unfolding entry_from
returns-then-tag-tag_at c =
    let args = c.args in
    seek_over (tag_at args.file.now args.d) args.tag c.loop-i.i args.d.n (λ h. rw (← c.tag_at.ensures) c.if-tag-tag_at.true) ∙ c.loop-i.invariant.1

pub loop-i-preserved : goal.loop-i-preserved
loop-i-preserved c =
    let args = c.args in
    let passed = seek-on (tag_at args.file.now args.d) args.tag c.loop-i.i args.d.n c.loop-i-test.true (rw (← c.tag_at.ensures) (omega (arith, c.if-tag-tag_at.false))) in
    (omega (arith, c.loop-i-test.true), sym passed ∙ c.loop-i.invariant.1)

pub returns : goal.returns
unfolding entry_from
returns c =
    let args = c.args in
    let end : c.max.result ≡ c.loop-i.i = rw c.max.ensures (omega (arith, c.loop-i-test.false, c.loop-i.invariant.0)) in
    end ∙ seek_over (tag_at args.file.now args.d) args.tag c.loop-i.i args.d.n (λ h. absurd (omega (arith, c.loop-i-test.false))) ∙ c.loop-i.invariant.1
