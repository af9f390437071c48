-- The strips' places and lengths, written one after another: what a loop over the strips knows. Assumes nothing.
use Prim.Native.Nat.{ℕ, ◌+◌, ◌*◌, ◌≤◌, ◌<◌}
use mathlib.Core.Path.{◌≡◌, refl, sym, ap, ◌∙◌}
use mathlib.Core.Bool.{Bool, true, false}
use mathlib.Core.List.{List}
use native.Mathlib.Numerals.{add-one}
use native.Mathlib.Omega.{arith}
use Rattle.answer.specs.Outcome.{pick}
use Rattle.words.specs.Word.{Put}
use Rattle.layout.specs.declared.Fields.{Fields}
use Rattle.directory.specs.Page.{smaller}
use Rattle.files.specs.declared.plan.Plan.{Plan}
use Rattle.files.specs.File.{stored, strips, strip_bytes, strip_place, outside, offsets_place, counts_place, front}
use Rattle.files.specs.Parts.{Planned, Wrote, left_after}
use Rattle.files.proofs.Holding.{Holds, holds_at}
use Rattle.files.proofs.Places.{holds_place, holds_length}
use Rattle.files.proofs.Rows.{rows_left, first-left, left-next, strip-left}
use Rattle.files.proofs.Sizes.{fields_accepted}
use Rattle.files.proofs.Writing.{laid, number-wrote}

-- k numbers written; where strip k stands, and what it finds left
pub record Stripped (f : Fields) (p : Plan) (at k place left : ℕ) (old new : List ℕ) : Type 0 where
  pub wrote : Wrote (front f p.each) at (4 * k) old new
  pub stands : place ≡ strip_place f p.each k
  pub rows : left ≡ rows_left f.h p.each k

-- strip k's number
holds_strip : (f : Fields) (each : ℕ) (places : Bool) (k : ℕ) → k < outside 4 (strips f each) → Holds (front f each) (pick places (offsets_place f) (counts_place f each) + 4 * k) (stored 4 (pick places (strip_place f each k) (strip_bytes f each k)))
holds_strip f each true k h = holds_place f each k h
holds_strip f each false k h = holds_length f each k h

module _ {f : Fields} {p : Plan} {old : List ℕ} (h : Planned f p old) where
  pub stripped_none : (at : ℕ) → Stripped f p at 0 p.planes p.rows old old
  stripped_none at =
      record { wrote = record { stored = refl }; stands = omega (arith, (laid h).planes); rows = (laid h).rows ∙ sym (first-left f.h p.each) }

  -- both tables stand before the resolutions
  pub inside : {at : ℕ} (places : Bool) → at ≡ pick places p.offsets p.counts → at + 4 * p.strips_outside ≤ p.resolutions
  inside true e = omega (arith, laid h)
  inside false e = omega (arith, laid h)

  module _ {at k place left : ℕ} {new : List ℕ} (s : Stripped f p at k place left old new) where
    pub bytes_are : {bytes : ℕ} → bytes ≡ smaller p.each left * p.row → bytes ≡ strip_bytes f p.each k
    bytes_are e = e ∙ ap (λ (n : ℕ). smaller p.each left * n) (laid h).row ∙ strip-left f p.each k left s.rows

    -- a strip more
    pub stripped_on : {bytes v after : ℕ} {then : List ℕ} (places : Bool) → at ≡ pick places p.offsets p.counts → k < p.strips_outside → bytes ≡ smaller p.each left * p.row → v ≡ pick places place bytes → Put new (at + 4 * k) 4 true v then → after ≡ left_after p left → Stripped f p at (k + 1) (place + bytes) after old then
    stripped_on {bytes} {v} {after} {then} places table more is number put left_is =
        let size = bytes_are is in
        let stood : at + 4 * k ≡ pick places (offsets_place f) (counts_place f p.each) + 4 * k = ap (λ (n : ℕ). n + 4 * k) (table ∙ rw ((laid h).offsets, (laid h).counts)) in
        record {
          wrote = number-wrote 4 k s.wrote (holds_at (sym stood) (holds_strip f p.each places k (omega (arith, laid h)))) (number ∙ rw (s.stands, size)) put;
          stands = rw (add-one k) (omega (arith, s.stands, size));
          rows = left_is ∙ rw (s.rows, (laid h).rows) (left-next f.h p.each k h.fit.some (fields_accepted f p.each h.fit).high);
        }
