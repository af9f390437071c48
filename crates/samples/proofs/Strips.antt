-- A good strip in numbers: its row and its bytes are whole words. Assumes nothing.
use mathlib.Core.Path.{◌≡◌, ap}
use mathlib.Core.Bool.{false, not}
use Prim.Native.Nat.{ℕ, ◌*◌, ◌/◌, ◌%◌, ◌≤◌}
use native.Mathlib.Omega.{arith}
use borrow.Author.Tests.{eqb-true, eqb-false, eq-eqb, not-false}
use lib.Dec.{eqb}
use Rattle.answer.specs.Outcome.{Sound, next, none}
use Rattle.answer.proofs.Promised.{sound-here, sound_rest}
use Rattle.words.specs.Promises.{served}
use Rattle.words.proofs.Served.{served-some}
use native.Mathlib.Nat.{mod_self, zero-mod, dvd_of_mod-eq-zero, mod-eq-zero_of_dvd, dvd_trans, div-mul_cancel}
use Rattle.laws.proofs.Groups.{group_room, groups-words}
use Rattle.samples.specs.Sample.{strip, Good}
use Rattle.samples.specs.declared.Strip.{Strip}
use Rattle.samples.specs.Promises.{strip_faults}

module _ (bytes : ℕ) (g : Strip) (good : Good bytes g) where
  pub row_words : g.row % g.width ≡ 0
  row_words = groups-words g.row g.channels g.width good.rows

  pub bytes-words : bytes % g.width ≡ 0
  bytes-words = mod-eq-zero_of_dvd g.width (dvd_trans g.width (dvd_of_mod-eq-zero g.width row_words) (dvd_of_mod-eq-zero g.row good.whole))

  -- samples of a row, times the width, are the row
  pub per_row_lem : g.row / g.width * g.width ≡ g.row
  per_row_lem = div-mul_cancel g.width (dvd_of_mod-eq-zero g.width row_words)

-- a row holds a word
pub width_fits : (bytes : ℕ) (g : Strip) → Good bytes g → g.width ≤ g.row
width_fits bytes g good = omega (arith, group_room g.width g.row 0 (row_words bytes g good) (zero-mod g.width) good.long)

-- what the strip check has shown, once it finds no fault
pub good_checked : (bytes : ℕ) (g : Strip) → Sound (strip_faults bytes g) → Good bytes g
good_checked bytes g s =
    let row = sound_rest (sound_rest (sound_rest (sound_rest s))) in
    record {
      channel = omega (arith, eqb-false g.channels 0 (sound-here (sound_rest s)));
      wide = (served-some g.width (not-false (served g.width) (sound-here s))).0;
      long = omega (arith, eqb-false g.row 0 (sound-here (sound_rest (sound_rest (sound_rest s)))));
      rows = eqb-true (g.row % (g.channels * g.width)) 0 (not-false (eqb (g.row % (g.channels * g.width)) 0) (sound-here row));
      whole = eqb-true (bytes % g.row) 0 (not-false (eqb (bytes % g.row) 0) (sound-here (sound_rest row)));
    }

-- a row of such a strip is such a strip
pub row_checked : (bytes : ℕ) (g : Strip) (n : ℕ) → n ≡ g.row → Sound (strip_faults bytes g) → Sound (strip_faults n (strip n g.channels g.width))
row_checked bytes g n e s =
    let row = sound_rest (sound_rest (sound_rest s)) in
    let long : eqb n 0 ≡ false = rw e (sound-here row) in
    let groups : not (eqb (n % (g.channels * g.width)) 0) ≡ false = rw e (sound-here (sound_rest row)) in
    next (sound-here s) (next (sound-here (sound_rest s)) (next (sound-here (sound_rest (sound_rest s))) (next long (next groups (next (ap not (eq-eqb (n % n) 0 (mod_self n))) none)))))
