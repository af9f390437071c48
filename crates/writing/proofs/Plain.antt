-- A row of bytes or words: its bytes in the planes' order, then flipped by white but for alpha. Assumes nothing.
use Prim.Native.Nat.{ℕ, ◌-◌, ◌%◌, ◌<◌}
use mathlib.Core.Path.{◌≡◌, refl, sym, ap, ◌∙◌}
use mathlib.Core.Bool.{Bool, true, false, not}
use mathlib.Core.List.{List}
use native.Mathlib.Omega.{arith}
use borrow.Author.Tests.{eq-eqb, ne_eqb, le-ltb}
use lib.ListN.{length, get_or}
use lib.Dec.{eqb}
use Rattle.answer.specs.Outcome.{pick, Sound, next, none, Done}
use Rattle.answer.specs.Table.{table}
use Rattle.answer.proofs.Promised.{finished}
use Rattle.answer.proofs.Filling.{table_at, table_same, table_self, length-table, filled-all}
use Rattle.words.specs.Word.{Bytes}
use Rattle.samples.specs.Sample.{word_of, stored_at}
use Rattle.samples.specs.Promises.{reorder_faults, Reordered}
use Rattle.layout.specs.declared.RasterLayout.{RasterLayout}
use Rattle.layout.specs.Layout.{high_first}
use Rattle.pixels.specs.Render.{flipped}
use Rattle.pixels.specs.Finish.{Inverted, straight_at, straight_faults, Straightened, WholePixels}
use Rattle.pixels.proofs.HighFirst.{narrow-served, stored-high_first}
use Rattle.pixels.specs.Planes.{flips_channel}
use Rattle.writing.specs.Parts.{RowFlipped, PlainFits, PlainRowWritten}

-- white, with no alpha, beside alpha, and none
module _ (l : RasterLayout) (old : List ℕ) where
  pub over_none : l.fields.white ≡ false → RowFlipped l old old
  over_none e = rw e (sym (table_self old))

  pub over_all : l.fields.white ≡ true → l.fields.alpha ≡ 0 → (new : List ℕ) → Inverted old new → RowFlipped l old new
  over_all e z new p = rw (e, eq-eqb l.fields.alpha 0 z) p

  pub over_colours : l.fields.white ≡ true → (l.fields.alpha ≡ 0 → ⊥) → WholePixels old l.fields.ch → (answer : Done) (new : List ℕ) → Straightened old l.fields.ch false true answer new → RowFlipped l old new
  over_colours e z whole answer new p =
      finished (straight_faults old l.fields.ch) tt (length old) (straight_at old l.fields.ch false true) old new sound p
      ∙ filled-all (length old) (straight_at old l.fields.ch false true) old (omega arith)
      ∙ table_same (length old) _ _ (λ j h. rw (e, ne_eqb l.fields.alpha 0 z) (by j (eqb (j % l.fields.ch) (l.fields.ch - 1))))
    where
      sound : Sound (straight_faults old l.fields.ch)
      sound = next (ne_eqb l.fields.ch 0 (λ n. omega (arith, whole.some))) (next (ap not (eq-eqb _ _ whole.whole)) none)

      by : (j : ℕ) (last : Bool) → pick last (get_or old j 0) (255 - get_or old j 0) ≡ flipped (not last) (get_or old j 0)
      by j true = refl
      by j false = refl

-- such a row
module _ {l : RasterLayout} {row old : List ℕ} (fits : PlainFits l row old) (b : Bytes row) where
  faultless : Sound (reorder_faults row l.fields.bytes old)
  faultless =
      next (ap not (narrow-served fits.width)) (next (ap not (eq-eqb _ _ fits.words)) (next (le-ltb (length old) (length row) (omega (arith, fits.room))) none))

  module _ (answer : Done) (mid : List ℕ) (p : Reordered row l.fields.bytes false l.fields.le old answer mid) where
    reordered : mid ≡ table (length row) (stored_at l.fields.bytes l.fields.le (word_of l.fields.bytes false row))
    reordered =
        finished (reorder_faults row l.fields.bytes old) tt (length row) _ old mid faultless p
        ∙ filled-all (length row) _ old (omega (arith, fits.room))

    reordered_length : length mid ≡ length row
    reordered_length = ap length reordered ∙ length-table (length row) _

    pub reordered_whole : WholePixels mid l.fields.ch
    reordered_whole = record { some = fits.some; whole = ap (λ (n : ℕ). n % l.fields.ch) reordered_length ∙ fits.pixels }

    reordered_at : (k : ℕ) → k < length row → get_or mid k 0 ≡ get_or row (high_first l.fields.bytes l.fields.le k) 0
    reordered_at k h =
        ap (λ (m : List ℕ). get_or m k 0) reordered ∙ table_at (length row) _ k h ∙ stored-high_first row b fits.width false l.fields.le k

    pub plain_done : (new : List ℕ) → RowFlipped l mid new → PlainRowWritten l row old new
    plain_done new q =
        q
        ∙ ap (λ (n : ℕ). table n (λ j. flipped (flips_channel l (j % l.fields.ch)) (get_or mid j 0))) (reordered_length ∙ sym fits.room)
        ∙ table_same (length old) _ _ (λ j h. ap (flipped (flips_channel l (j % l.fields.ch))) (reordered_at j (omega (arith, fits.room))))
