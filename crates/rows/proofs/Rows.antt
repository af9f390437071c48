-- The loop over a strip's rows: what the strip check has shown of a row, the loop's invariant, how a row keeps it, and what it comes to.
-- Assumes nothing.
use Rattle.std.proofs.Common.{◌≡◌, ℕ, ◌+◌, ◌-◌, ◌*◌, ◌/◌, ◌%◌, ◌<◌, ◌≤◌, Bool, true, false, List, ◌++◌, length, get_or, take, drop, refl, ap, ◌∙◌, le-div_iff_mul-le, div-add-mod', mul-le-mul_right, arith, ltb-false}
use native.Mathlib.Nat.{zero-mod, add-mod_right, mod_self}
use borrow.Author.Tests.{not-false}
use Rattle.answer.specs.Outcome.{Sound}
use Rattle.answer.specs.Table.{table, filled}
use Rattle.answer.proofs.Promised.{sound-here, sound-front, sound_back}
use Rattle.answer.proofs.Filling.{part, length_part, part_filled, length-filled, filled-all, table_same}
use Rattle.words.specs.Word.{plus}
use Rattle.words.specs.Promises.{served}
use Rattle.laws.proofs.Groups.{group_room}
use Rattle.samples.specs.Sample.{strip, Good, stored_at}
use Rattle.samples.specs.declared.Strip.{Strip}
use Rattle.samples.specs.Promises.{strip_faults, convert_faults}
use Rattle.samples.proofs.Strips.{good_checked, row_checked}
use Rattle.samples.proofs.Parts.{part_made, part_samples, part_differences}
use Rattle.rows.proofs.Loops.{next_at}
use Rattle.rows.specs.Row.{one_row, meant, resumed_in, resumed, RowFits, FewFit, FewRows, RowServed, StripServed}

-- a strip in which the check finds no fault
pub strip-served : (raw : List ℕ) (g : Strip) (out : List ℕ) → Sound (convert_faults raw g out) → StripServed raw g out
strip-served raw g out s = record {
  sound = sound-front (strip_faults (length raw) g) _ s;
  room = ltb-false (length out) (length raw) (sound-here (sound_back (strip_faults (length raw) g) _ s));
}

-- and a row
pub row-served : (raw : List ℕ) (channels width : ℕ) (out : List ℕ) → StripServed raw (one_row raw channels width) out → RowServed raw channels width out
row-served raw channels width out is =
    let good = good_checked (length raw) (one_row raw channels width) is.sound in
    record {
      takes = not-false (served width) (sound-here is.sound);
      fits = record { channel = good.channel; wide = good.wide; groups = good.rows; room = is.room };
      step = omega (arith, group_room (channels * width) (length raw) 0 good.rows (zero-mod (channels * width)) good.long);
    }

-- a row's room, as a strip that has it alone
pub one-good : {raw : List ℕ} {channels width : ℕ} {out : List ℕ} → RowFits raw channels width out → 0 < length raw → Good (length raw) (one_row raw channels width)
one-good {raw} fits some = record { channel = fits.channel; wide = fits.wide; long = some; rows = fits.groups; whole = mod_self (length raw) }

-- row n is there
pub row_begins : {bytes : ℕ} {g : Strip} {n : ℕ} → Good bytes g → n < bytes / g.row → n * g.row < bytes
row_begins {bytes} {g} {n} good h =
    omega (arith, (le-div_iff_mul-le {k = g.row} {x = n + 1} {y = bytes} good.long).0 (omega arith), next_at n g.row, good.long)

-- the buffer holds the bytes f of the strip's rows up to `at`
pub record RowsUpto (f : ℕ → ℕ) (raw : List ℕ) (g : Strip) (old : List ℕ) (at : ℕ) (out : List ℕ) : Type 0 where
  pub inside : at ≤ length raw
  pub rows : at % g.row ≡ 0
  pub same : length out ≡ length old
  pub so_far : out ≡ filled at f old

pub rows_none : (f : ℕ → ℕ) (raw : List ℕ) (g : Strip) (old : List ℕ) → RowsUpto f raw g old 0 old
rows_none f raw g old = record { inside = omega arith; rows = zero-mod g.row; same = refl; so_far = refl }

module _ {f : ℕ → ℕ} {raw : List ℕ} {g : Strip} {old : List ℕ} {at : ℕ} {out : List ℕ} (good : Good (length raw) g) (room : length raw ≤ length old) (is : RowsUpto f raw g old at out) where
  module _ (more : at < length raw) where
    pub row_room : at + g.row ≤ length raw
    row_room = group_room g.row (length raw) at good.whole is.rows more

    -- and room for it
    pub row_free : at + g.row ≤ length out
    row_free = omega (arith, row_room, is.same, room)

    pub row-long : length (part at (at + g.row) raw) ≡ at + g.row - at
    row-long = length_part at (at + g.row) raw (omega arith) row_room

    pub row-wide : length (part at (at + g.row) out) ≡ at + g.row - at
    row-wide = length_part at (at + g.row) out (omega arith) row_free

    -- a turn: the row at `at`, whose bytes are the strip's there
    pub row_turned : (new : List ℕ) (w : ℕ → ℕ) → ((k : ℕ) → k < g.row → w k ≡ f (at + k)) → new ≡ filled (length (part at (at + g.row) raw)) w (part at (at + g.row) out) → RowsUpto f raw g old (at + g.row) (take at out ++ (new ++ drop (at + g.row - at) (drop at out)))
    row_turned new w agree e =
        let all : new ≡ table (at + g.row - at) (λ k. f (at + k)) =
        e
        ∙ filled-all (length (part at (at + g.row) raw)) w (part at (at + g.row) out) (omega (arith, row-long, row-wide))
        ∙ ap (λ (n : ℕ). table n w) row-long
        ∙ table_same (at + g.row - at) w _ (λ k h. agree k (omega arith)) in
        let now = part_filled f at (at + g.row) old out new (omega arith) is.so_far all in
        record {
          inside = row_room;
          rows = add-mod_right at g.row ∙ is.rows;
          same = ap length now ∙ length-filled (at + g.row) _ old (omega (arith, row_room, room));
          so_far = now;
        }

  pub rows_ended : length raw ≤ at → out ≡ filled (length raw) f old
  rows_ended l = let all : at ≡ length raw = omega (arith, is.inside) in rw all at is.so_far

-- and after all of them
pub rows_through : {f : ℕ → ℕ} {raw : List ℕ} {g : Strip} {old : List ℕ} {n : ℕ} {out : List ℕ} → Good (length raw) g → length raw ≤ length old → RowsUpto f raw g old (n * g.row) out → length raw / g.row ≤ n → out ≡ filled (length raw) f old
rows_through {raw = raw} {g = g} {n = n} good room is l =
    rows_ended good room is (omega (arith, div-add-mod' (length raw) g.row, good.whole, mul-le-mul_right {m = length raw / g.row} {n = n} g.row l))

-- a strip's rows, predicted or undone
module _ {f : ℕ → ℕ} {raw : List ℕ} {g : Strip} {old : List ℕ} {at : ℕ} {out : List ℕ} (fits : StripServed raw g old) (is : RowsUpto f raw g old at out) (more : at < length raw) where
  strip-good : Good (length raw) g
  strip-good = good_checked (length raw) g fits.sound

  pub part_served : RowServed (part at (at + g.row) raw) g.channels g.width (part at (at + g.row) out)
  part_served =
      let long = row-long strip-good fits.room is more in
      row-served (part at (at + g.row) raw) g.channels g.width (part at (at + g.row) out)
      (record {
        sound = row_checked (length raw) g (length (part at (at + g.row) raw)) (long ∙ omega arith) fits.sound;
        room = omega (arith, long, row-wide strip-good fits.room is more);
      })

  pub row-meant : (predict le out_le forward : Bool) (k : ℕ) → k < g.row → stored_at g.width out_le (meant forward (strip (length (part at (at + g.row) raw)) g.channels g.width) predict le (part at (at + g.row) raw)) k ≡ stored_at g.width out_le (meant forward g predict le raw) (at + k)
  row-meant predict le out_le true k h = part_differences raw g strip-good le out_le at is.rows (row_room strip-good fits.room is more) predict k h
  row-meant predict le out_le false k h = part_samples raw g strip-good le out_le at is.rows (row_room strip-good fits.room is more) predict k h

-- those of at most four channels, each from the same sums
module _ {f : ℕ → ℕ} {raw : List ℕ} {g : Strip} {start old : List ℕ} {at : ℕ} {out : List ℕ} (fits : FewRows raw g start old) (is : RowsUpto f raw g old at out) (more : at < length raw) where
  pub few_part : FewFit (part at (at + g.row) raw) g.channels g.width start (part at (at + g.row) out)
  few_part =
      let long = row-long fits.good fits.room is more in
      record {
        row = record {
          takes = fits.takes;
          fits = record {
            channel = fits.good.channel;
            wide = fits.good.wide;
            groups = rw long (ap (λ (n : ℕ). n % (g.channels * g.width)) (omega arith) ∙ fits.good.rows);
            room = omega (arith, long, row-wide fits.good fits.room is more);
          };
          held = omega (arith, fits.few, fits.four);
        };
        few = fits.few;
        four = fits.four;
      }

  pub row-resumed : (le out_le : Bool) (k : ℕ) → k < g.row → stored_at g.width out_le (resumed (part at (at + g.row) raw) g.channels g.width le start) k ≡ stored_at g.width out_le (resumed_in g raw le start) (at + k)
  row-resumed le out_le = part_made raw g fits.good le out_le at is.rows (row_room fits.good fits.room is more) (λ x channel. plus g.width x (get_or start channel 0)) true
