-- The first words of a row: put there by `lead`, they are the row's first samples and its first differences, and the loops go on from them.
-- And a strip without prediction, whose words all stand for themselves. Assumes nothing.
use Rattle.std.proofs.Common.{◌≡◌, ℕ, ◌*◌, ◌/◌, ◌%◌, ◌<◌, ◌≤◌, Bool, true, false, not, List, length, take, sym, refl, ap, ◌∙◌, mod-eq_of_lt, div-lt_iff_lt-mul, arith, le-ltb, lt-ltb, eq-eqb}
use native.Mathlib.Nat.{mul-mod_left, mod-le}
use Rattle.answer.specs.Outcome.{next, none, Done}
use Rattle.answer.specs.Table.{filled}
use Rattle.answer.proofs.Promised.{finished}
use Rattle.answer.proofs.Filling.{length-filled, filled-same, filled-take, filled_on}
use Rattle.words.specs.Digits.{digit}
use Rattle.words.specs.Word.{ordered, Bytes, modulus}
use Rattle.words.specs.Promises.{served}
use Rattle.words.proofs.Words.{word_below}
use Rattle.samples.specs.Sample.{word_of, alone, stored_at}
use Rattle.samples.specs.declared.Strip.{Strip}
use Rattle.samples.specs.Promises.{reorder_faults, Reordered}
use Rattle.samples.proofs.Sums.{sample-alone, difference-alone}
use Rattle.rows.specs.Row.{one_row, meant, RowServed, Led, LeadFits, LedInto, meant_at, TransformedInto}

module _ (raw : List ℕ) (b : Bytes raw) (channels width : ℕ) (some : 0 < width) (le out_le : Bool) (k : ℕ) (h : k < channels * width) where
  first : alone (one_row raw channels width) true (k / width) ≡ true
  first = lt-ltb (k / width % (length raw / width)) channels (omega (arith, mod-le (k / width) (length raw / width), (div-lt_iff_lt-mul {k = width} {x = k} {y = channels} some).1 h))

  itself : word_of width le raw (k / width) % modulus width ≡ word_of width le raw (k / width)
  itself = mod-eq_of_lt (word_below raw (k / width * width) width le b)

  pub first-meant : (forward : Bool) → stored_at width out_le (word_of width le raw) k ≡ meant_at raw channels width le out_le forward k
  first-meant true = ap (digit 256 (ordered out_le width (k % width))) (sym (difference-alone (one_row raw channels width) true le raw (k / width) first ∙ itself))
  first-meant false = ap (digit 256 (ordered out_le width (k % width))) (sym (sample-alone (one_row raw channels width) true le raw (k / width) first ∙ itself))

-- going on from the first words, whatever the rest is
module _ (f : ℕ → ℕ) (raw : List ℕ) (channels width : ℕ) (le out_le : Bool) (old mid : List ℕ) (row : RowServed raw channels width old) (agree : (k : ℕ) → k < channels * width → stored_at width out_le (word_of width le raw) k ≡ f k) (is : LedInto raw (channels * width) width le out_le old mid) where
  begun : mid ≡ filled (channels * width) f old
  begun = is ∙ filled-same (channels * width) _ f old agree

  pub goes_on : Led f raw channels width mid
  goes_on = record {
    fits = record { channel = row.fits.channel; wide = row.fits.wide; groups = row.fits.groups; room = omega (arith, row.fits.room, row.step, ap length begun, length-filled (channels * width) f old (omega (arith, row.fits.room, row.step))) };
    step = row.step;
    front = ap (take (channels * width)) begun ∙ filled-take (channels * width) f old;
  }

  pub done_on : (new : List ℕ) → new ≡ filled (length raw) f mid → new ≡ filled (length raw) f old
  done_on new e = e ∙ ap (filled (length raw) f) begun ∙ filled_on (channels * width) (length raw) f old row.step

-- the first words of a row are there, and there is room for them
pub lead_fits : {raw : List ℕ} {channels width : ℕ} {out : List ℕ} → RowServed raw channels width out → LeadFits raw (channels * width) width out
lead_fits {raw} {channels} {width} row = record {
  takes = row.takes;
  words = mul-mod_left channels width;
  within = row.step;
  room = omega (arith, row.step, row.fits.room);
}

-- a row whose first words `lead` put there, predicted or undone
module _ (raw : List ℕ) (b : Bytes raw) (channels width : ℕ) (le out_le forward : Bool) (old mid : List ℕ) (row : RowServed raw channels width old) (is : LedInto raw (channels * width) width le out_le old mid) where
  agree : (k : ℕ) → k < channels * width → stored_at width out_le (word_of width le raw) k ≡ meant_at raw channels width le out_le forward k
  agree k h = first-meant raw b channels width row.fits.wide le out_le k h forward

  pub lead_on : Led (meant_at raw channels width le out_le forward) raw channels width mid
  lead_on = goes_on _ raw channels width le out_le old mid row agree is

  pub lead_all : (new : List ℕ) → TransformedInto raw (one_row raw channels width) true le out_le forward mid new → TransformedInto raw (one_row raw channels width) true le out_le forward old new
  lead_all = done_on _ raw channels width le out_le old mid row agree is

-- such a row fits the loop of its direction
pub steps_fits : {raw : List ℕ} {channels width : ℕ} {forward f : Bool} {out : List ℕ} (le out_le : Bool) → forward ≡ f → (served width ≡ true) × Led (meant_at raw channels width le out_le forward) raw channels width out → (served width ≡ true) × Led (meant_at raw channels width le out_le f) raw channels width out
steps_fits le out_le e is = rw e at is

-- without prediction every word stands for itself, and `reorder` puts it there
pub unpredicted : (raw : List ℕ) (b : Bytes raw) (g : Strip) (le out_le forward : Bool) (old : List ℕ) (answer : Done) (new : List ℕ) → served g.width ≡ true → length raw % g.width ≡ 0 → length raw ≤ length old → Reordered raw g.width le out_le old answer new → TransformedInto raw g false le out_le forward old new
unpredicted raw b g le out_le forward old answer new takes words room p =
    finished (reorder_faults raw g.width old) tt (length raw) (stored_at g.width out_le (word_of g.width le raw)) old new (next (ap not takes) (next (ap not (eq-eqb _ _ words)) (next (le-ltb _ _ room) none))) p
    ∙ filled-same (length raw) _ _ old (λ k h. ap (digit 256 (ordered out_le g.width (k % g.width))) (by forward (k / g.width)))
  where
    by : (f : Bool) (n : ℕ) → word_of g.width le raw n ≡ meant f g false le raw n
    by true n = sym (difference-alone g false le raw n refl ∙ mod-eq_of_lt (word_below raw (n * g.width) g.width le b))
    by false n = sym (sample-alone g false le raw n refl ∙ mod-eq_of_lt (word_below raw (n * g.width) g.width le b))
