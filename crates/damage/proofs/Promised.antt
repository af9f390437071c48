-- What the promise of `marks` gives and how it is met: each byte written is the sample's mark, and so the marks are exact. Assumes nothing.
use Rattle.std.specs.Prelude.{Ok}
use mathlib.Core.Path.{◌≡◌, refl, sym, ap, ◌∙◌}
use mathlib.Core.Bool.{Bool, true, false}
use mathlib.Core.List.{List, ◌++◌}
use Prim.Native.Nat.{ℕ, ◌+◌, ◌-◌, ◌≤◌, ◌<◌}
use native.Mathlib.Nat.{zero-add, dvd_of_mod-eq-zero, div-mul_cancel}
use native.Mathlib.Omega.{arith}
use lib.ListN.{length, get_or, drop}
use Rattle.answer.specs.Outcome.{unless, Promise, Sound, outcome, Answer}
use Rattle.answer.specs.Table.{table}
use Rattle.answer.proofs.Promised.{finished, finishes, sound-front}
use Rattle.answer.proofs.Filling.{part, length_part, part_filled, table_same, filled-front}
use Rattle.samples.specs.Sample.{Good}
use Rattle.samples.specs.declared.Strip.{Strip}
use Rattle.samples.specs.Promises.{strip_faults}
use Rattle.samples.proofs.Strips.{good_checked, bytes-words}
use Rattle.damage.specs.Marks.{marked, mark_byte, counted}
use Rattle.damage.specs.Promises.{samples_of, mark_faults, Marked}
use Rattle.damage.specs.Passes.{StripMarksFit, MarkedInto}
use Rattle.damage.proofs.Exact.{there, marked-differ, differ-marked}

-- a strip without a fault, and the front of the buffer, where there is room
pub front_fits : (damage : List ℕ) (g : Strip) (old : List ℕ) → Sound (strip_faults (length damage) g) → samples_of damage g ≤ length old → StripMarksFit damage g (part 0 (samples_of damage g) old)
front_fits damage g old s room =
    let good = good_checked (length damage) g s in
    let long : length (part 0 (samples_of damage g) old) ≡ samples_of damage g = length_part 0 (samples_of damage g) old (omega arith) room ∙ omega arith in
    record { sound = s; each = rw long (sym (div-mul_cancel g.width (dvd_of_mod-eq-zero g.width (bytes-words (length damage) g good)))) }

pub mark_true : (b : Bool) → mark_byte b ≡ 1 → b ≡ true
mark_true true e = refl
mark_true false e = absurd (omega arith)

pub mark_false : (b : Bool) → mark_byte b ≡ 0 → b ≡ false
mark_false true e = absurd (omega arith)
mark_false false e = refl

module _ (damage : List ℕ) (g : Strip) (predict : Bool) (old : List ℕ) (answer : Answer ℕ) (new : List ℕ) where
  pub good-marks : Sound (mark_faults damage g old) → Good (length damage) g
  good-marks s = good_checked (length damage) g (sound-front (strip_faults (length damage) g) _ s)

  module _ (p : Promise (unless (mark_faults damage g old) (counted (samples_of damage g) (marked g predict damage))) (table (samples_of damage g) (λ n. mark_byte (marked g predict damage n))) old (outcome answer) new) where
    -- byte n of the buffer is sample n's mark
    pub written : Sound (mark_faults damage g old) → (n : ℕ) → n < samples_of damage g → get_or new n 0 ≡ mark_byte (marked g predict damage n)
    written s n h =
        ap (λ (l : List ℕ). get_or l n 0) (finished (mark_faults damage g old) _ (samples_of damage g) (λ k. mark_byte (marked g predict damage k)) old new s p)
        ∙ filled-front (samples_of damage g) (λ k. mark_byte (marked g predict damage k)) old n h

    pub exactly : Marked damage g predict old answer new
    exactly = record {
      promise = p;
      exact = λ s le n h. (
        λ one. marked-differ g (good-marks s).channel predict le damage n (there g damage n h) (mark_true (marked g predict damage n) (sym (written s n h) ∙ one)),
        λ two. written s n h ∙ ap mark_byte (differ-marked g (good-marks s).channel predict le damage n (there g damage n h) two),
      );
    }

-- a buffer whose front was marked is what is promised
pub marks-done : (damage : List ℕ) (g : Strip) (predict : Bool) (old : List ℕ) (count : ℕ) (new : List ℕ) → Sound (mark_faults damage g old) → samples_of damage g ≤ length old → MarkedInto damage g predict (part 0 (samples_of damage g) old) count new → Marked damage g predict old (Ok count) (new ++ drop (samples_of damage g - 0) (drop 0 old))
marks-done damage g predict old count new s room r =
    let samples = samples_of damage g in
    let f : ℕ → ℕ = λ n. mark_byte (marked g predict damage n) in
    let long : length (part 0 samples old) ≡ samples - 0 = length_part 0 samples old (omega arith) room in
    let whole : samples - 0 ≡ samples = omega arith in
    let count-is : count ≡ counted samples (marked g predict damage) = r.count-is ∙ ap (λ (n : ℕ). counted n (marked g predict damage)) (long ∙ whole) in
    let all : new ≡ table (samples - 0) (λ k. f (0 + k)) = r.marks ∙ ap (λ (n : ℕ). table n f) long ∙ table_same (samples - 0) f _ (λ k h. ap f (sym (zero-add k))) in
    let now = part_filled f 0 samples old old new (omega arith) refl all in
    exactly damage g predict old (Ok count) _ (rw count-is (finishes (mark_faults damage g old) (counted samples (marked g predict damage)) samples f old _ s now))
