-- Words of a row that is taken up in its middle: the loop over them, whole pixels by the loops that hold the sums, and two runs that are one.
-- Assumes nothing.
use Rattle.std.proofs.Common.{◌≡◌, ℕ, zero, suc, ◌+◌, ◌-◌, ◌*◌, ◌/◌, ◌%◌, ◌<◌, ◌≤◌, Bool, eqb, List, [], ◌∷◌, length, get_or, set, sym, refl, ap, ◌∙◌, add-zero, add_assoc, mul-le-mul_right, mod-lt, mod-eq_of_lt, mul_assoc, div-lt_iff_lt-mul, add-mul, one-mul, div-add-mod', le-div_iff_mul-le, zero-add, mul-div_cancel, add-one, arith, length-set, get_or-set_other, get_or-set_same, ext_get_or}
use native.Mathlib.Nat.{mod-add-mod, add-mod_right, zero-div, add-div_right, mul-mod_left, zero-mod}
use native.Mathlib.Decide.{dec_lt, ℕ_discrete}
use Rattle.answer.specs.Outcome.{pick}
use Rattle.answer.specs.Table.{table, filled}
use Rattle.answer.proofs.Filling.{length-table, table_same, filled-all, filled-front, filled_rest, filled-same, length-filled}
use Rattle.words.specs.Digits.{digit}
use Rattle.words.specs.Word.{ordered, word_at, Put, plus}
use Rattle.words.proofs.Words.{plus_below}
use Rattle.words.proofs.Served.{served-some}
use Rattle.laws.proofs.Groups.{turned, apart, group_room}
use Rattle.laws.proofs.Lists.{filled-one}
use Rattle.samples.specs.Sample.{word_of}
use Rattle.samples.proofs.Stored.{stored-word}
use Rattle.rows.specs.Row.{one_row, RowFits, FewRows, resumed, ResumedInto}
use Rattle.rows.specs.Resume.{sums_after, sample_after, resumed_at, RunFits, RanInto, PixelsFit, LastFits, Held}
use Rattle.rows.proofs.Loops.{Upto, upto_none, back_at, turn_room, ended, carried, carried_first, carried_later, carried_on}
use Rattle.rows.proofs.Loops as L
use Rattle.rows.proofs.Rows.{one-good}

pub after-long : (first channels width : ℕ) (w : ℕ → ℕ) (start : List ℕ) (n : ℕ) → length (sums_after first channels width w start n) ≡ length start
after-long first channels width w start zero = refl
after-long first channels width w start (suc n) = rw length-set (after-long first channels width w start n)

-- the loop: what is stored up to `at` are the samples, and the sums are those after so many words
pub record Running (raw : List ℕ) (first channels width : ℕ) (le out_le : Bool) (start old : List ℕ) (sums out : List ℕ) (channel at : ℕ) : Type 0 where
  pub upto : Upto (sample_after first channels width (word_of width le raw) start) width out_le (length raw) old at out
  pub here : channel ≡ (first + at / width) % channels
  pub sums_are : sums ≡ sums_after first channels width (word_of width le raw) start (at / width)

module _ (raw : List ℕ) (first channels width : ℕ) (le out_le : Bool) (start old : List ℕ) (fits : RunFits raw first channels width start old) where
  some : 0 < width
  some = (served-some width fits.takes).0

  pub running_none : Running raw first channels width le out_le start old start old first 0
  running_none = record { upto = upto_none _ _ _ _ _; here = rw (zero-div width, add-zero) (sym (mod-eq_of_lt fits.here)); sums_are = rw (zero-div width) }

  module _ {sums out : List ℕ} {channel at : ℕ} (is : Running raw first channels width le out_le start old sums out channel at) where
    pub channel_below : channel < channels
    channel_below = rw is.here (mod-lt (first + at / width) (omega (arith, fits.here)))

    pub sums_same : length sums ≡ length start
    sums_same = ap length is.sums_are ∙ after-long first channels width (word_of width le raw) start (at / width)

    pub channel-held : channel < length sums
    channel-held = omega (arith, channel_below, fits.held, fits.long, sums_same)

    module _ (more : at < length raw) where
      pub run_room : at + width ≤ length raw
      run_room = turn_room is.upto fits.words more

      next_word : (at + width) / width ≡ at / width + 1
      next_word = add-div_right at some

      pub run_turned : (x : ℕ) (new : List ℕ) (next : ℕ) → x ≡ plus width (word_at raw at width le) (get_or sums channel 0) → Put out at width out_le x new → next ≡ pick (eqb (channel + 1) channels) 0 (channel + 1) → Running raw first channels width le out_le start old (set sums channel x) new next (at + width)
      run_turned x new next e put on =
          let n = at / width in
          let word : word_of width le raw n ≡ word_at raw at width le = ap (λ (k : ℕ). word_at raw k width le) (back_at is.upto) in
          let value : x ≡ sample_after first channels width (word_of width le raw) start n = e ∙ rw (← word, is.sums_are, is.here) in
          record {
            upto = L.turned is.upto fits.words more (omega (arith, fits.same)) x new value put;
            here = on ∙ rw (is.here, next_word, ← add_assoc first n 1) (sym (turned (first + n) channels (omega (arith, fits.here))));
            sums_are = rw (next_word, add-one, is.here, is.sums_are, value);
          }

    pub run_ended : length raw ≤ at → RanInto raw first channels width le out_le start sums out
    run_ended l =
        let all : at ≡ length raw = omega (arith, is.upto.inside) in
        record { sums = rw all at is.sums_are; wrote = ended is.upto l ∙ filled-all (length raw) _ old (omega (arith, fits.same)) }

-- whole pixels: the sum of the channel that comes d words on is what is carried into that word
module _ (raw : List ℕ) (channels width : ℕ) (le : Bool) (start : List ℕ) (some : 0 < channels) (held : channels ≤ length start) where
  abbrev sums : ℕ → List ℕ
  sums = sums_after 0 channels width (word_of width le raw) start

  next_carried : (n : ℕ) → n ≤ length raw / width → (d : ℕ) → d < channels → get_or (sums n) ((n + d) % channels) 0 ≡ carried raw channels width le start (n + d)
  next_carried zero room d h = rw (zero-add d, mod-eq_of_lt h) (sym (carried_first raw channels width le start d h))
  next_carried (suc n) room d h = by (ℕ_discrete (suc d) channels) (next_carried n (omega arith))
    where
      before : ((d : ℕ) → d < channels → get_or (sums n) ((n + d) % channels) 0 ≡ carried raw channels width le start (n + d)) → plus width (word_of width le raw n) (get_or (sums n) ((0 + n) % channels) 0) ≡ resumed raw channels width le start n
      before e =
          let here : get_or (sums n) ((0 + n) % channels) 0 ≡ carried raw channels width le start n = rw zero-add (rw add-zero at (e 0 some)) in
          rw here (sym (carried_on raw channels width le start n some (omega arith)))

      by : Dec (suc d ≡ channels) → ((d : ℕ) → d < channels → get_or (sums n) ((n + d) % channels) 0 ≡ carried raw channels width le start (n + d)) → get_or (sums (suc n)) ((suc n + d) % channels) 0 ≡ carried raw channels width le start (suc n + d)
      by (yes all) e =
          let round : suc n + d ≡ n + channels = omega arith in
          let inside : (0 + n) % channels < length (sums n) = omega (arith, mod-lt (0 + n) some, after-long 0 channels width (word_of width le raw) start n) in
          let place : (suc n + d) % channels ≡ (0 + n) % channels = rw (round, zero-add) (add-mod_right n channels) in
          rw place (get_or-set_same (sums n) ((0 + n) % channels) _ 0 inside ∙ before e ∙ sym (rw round (carried_later raw channels width le start n)))
      by (no less) e =
          let next : suc n + d ≡ n + suc d = omega arith in
          rw next
          (get_or-set_other (sums n) ((0 + n) % channels) ((n + suc d) % channels) _ 0 (λ same. omega (arith, apart (0 + n) (n + suc d) channels (omega arith) (sym same)))
          ∙ e (suc d) (omega arith))

  pub held-sample : (n : ℕ) → n < length raw / width → resumed raw channels width le start n ≡ sample_after 0 channels width (word_of width le raw) start n
  held-sample n h =
      carried_on raw channels width le start n some h
      ∙ rw zero-add (ap (plus width (word_of width le raw n)) (sym (rw add-zero at (next_carried n (omega arith) 0 some))))

  kept : (n j : ℕ) → channels ≤ j → get_or (sums n) j 0 ≡ get_or start j 0
  kept zero j h = refl
  kept (suc n) j h = get_or-set_other (sums n) ((0 + n) % channels) j _ 0 (λ same. omega (arith, same, mod-lt (0 + n) some)) ∙ kept n j h

  -- after whole pixels they are the last of them
  pub last-sums : (n : ℕ) → n ≤ length raw / width → n % channels ≡ 0 → channels ≤ n → sums n ≡ filled channels (λ j. resumed raw channels width le start (n - channels + j)) start
  last-sums n room whole deep =
      ext_get_or 0 (sums n) (filled channels _ start)
      (after-long 0 channels width (word_of width le raw) start n ∙ sym (length-filled channels _ start held))
      (λ j l. by j (dec_lt j channels))
    where
      f : ℕ → ℕ
      f j = resumed raw channels width le start (n - channels + j)

      by : (j : ℕ) → Dec (j < channels) → get_or (sums n) j 0 ≡ get_or (filled channels (λ j. resumed raw channels width le start (n - channels + j)) start) j 0
      by j (yes h) =
          let place : (n + j) % channels ≡ j = sym (mod-add-mod n channels j) ∙ rw (whole, zero-add) (mod-eq_of_lt h) in
          let back : n - channels + j + channels ≡ n + j = omega arith in
          (rw place at (next_carried n room j h))
          ∙ (rw back at (carried_later raw channels width le start (n - channels + j)))
          ∙ sym (filled-front channels (λ j. resumed raw channels width le start (n - channels + j)) start j h)
      by j (no m) = kept n j (omega arith) ∙ sym (filled_rest channels _ start j (omega arith))

-- the last pixel, read back channel by channel
pub held_turned : {out : List ℕ} {last channels width : ℕ} {sums : List ℕ} → LastFits out last channels width sums → (out_le : Bool) {so_far : List ℕ} {channel : ℕ} → so_far ≡ filled channel (λ j. word_at out (last + j * width) width out_le) sums → channel < channels → (x : ℕ) → x ≡ word_at out (last + channel * width) width out_le → set so_far channel x ≡ filled (channel + 1) (λ j. word_at out (last + j * width) width out_le) sums
held_turned {out} {last} {channels} {width} {sums} fits out_le {so_far} {channel} is more x e =
    filled-one (λ j. word_at out (last + j * width) width out_le) sums channel is e (omega (arith, fits.held, fits.long))

-- whole pixels
module _ {raw : List ℕ} {channels width : ℕ} {start old : List ℕ} (fit : PixelsFit raw channels width start old) where
  run : RunFits raw 0 channels width start old
  run = fit.run

  wide : 0 < width
  wide = (served-some width run.takes).0

  sums-held : channels ≤ length start
  sums-held = omega (arith, run.held, run.long)

  row_fits : RowFits raw channels width old
  row_fits = record { channel = run.here; wide = wide; groups = fit.pixels; room = omega (arith, run.same) }

  pub few-rows : channels ≤ 4 → 0 < length raw → FewRows raw (one_row raw channels width) start old
  few-rows h some = record { takes = run.takes; good = one-good row_fits some; few = h; four = omega (arith, run.long); room = omega (arith, run.same) }

  pub none_ran : (le out_le : Bool) → length raw ≡ 0 → RanInto raw 0 channels width le out_le start start old
  none_ran le out_le e = record { sums = rw (e, zero-div width); wrote = empty old (run.same ∙ e) ∙ rw e }
    where
      empty : (l : List ℕ) → length l ≡ 0 → l ≡ []
      empty [] e = refl
      empty (x ∷ l) e = absurd (omega arith)

  module _ (more : 0 < length raw) where
    pub pixel_room : channels * width ≤ length raw
    pixel_room = omega (arith, group_room (channels * width) (length raw) 0 fit.pixels (zero-mod (channels * width)) more)

    module _ (le out_le : Bool) {new : List ℕ} (is : ResumedInto raw channels width le out_le start old new) where
      abbrev n : ℕ
      n = length raw / width

      words_are : n * width ≡ length raw
      words_are = omega (arith, div-add-mod' (length raw) width, run.words)

      new_is : new ≡ table (length raw) (resumed_at raw 0 channels width le out_le start)
      new_is =
          is
          ∙ filled-all (length raw) _ old (omega (arith, run.same))
          ∙ table_same (length raw) _ _ (λ k h. ap (digit 256 (ordered out_le width (k % width))) (held-sample raw channels width le start run.here sums-held (k / width) ((div-lt_iff_lt-mul {k = width} {x = k} {y = length raw / width} wide).1 (omega (arith, words_are)))))

      pub new_long : length new ≡ length old
      new_long = ap length new_is ∙ length-table (length raw) (resumed_at raw 0 channels width le out_le start) ∙ sym run.same

      pub last_fits : LastFits new (length raw - channels * width) channels width start
      last_fits = record { takes = run.takes; inside = omega (arith, pixel_room, new_long, run.same); held = run.held; long = run.long }

      pixels_are : n % channels ≡ 0
      pixels_are =
          let all : length raw / (channels * width) * channels * width ≡ length raw = mul_assoc (length raw / (channels * width)) channels width ∙ omega (arith, div-add-mod' (length raw) (channels * width), fit.pixels) in
          rw (← all, mul-div_cancel (length raw / (channels * width) * channels) wide) (mul-mod_left (length raw / (channels * width)) channels)

      deep : channels ≤ n
      deep = (le-div_iff_mul-le {k = width} {x = channels} {y = length raw} wide).1 pixel_room

      last_word : (j : ℕ) → j < channels → word_at new (length raw - channels * width + j * width) width out_le ≡ resumed raw channels width le start (n - channels + j)
      last_word j h =
          let k = n - channels + j in
          let back : n - channels + channels ≡ n = omega (arith, deep) in
          let there : length raw - channels * width + j * width ≡ k * width = omega (arith, add-mul (n - channels) j width, add-mul (n - channels) channels width, ap (λ (x : ℕ). x * width) back, words_are) in
          let inside : k < n = omega (arith, deep) in
          let v = sample_after 0 channels width (word_of width le raw) start in
          ap (λ (l : List ℕ). word_at l (length raw - channels * width + j * width) width out_le) new_is
          ∙ rw there (stored-word (length raw) width out_le v k (omega (arith, words_are, add-mul k 1 width, one-mul width, mul-le-mul_right {m = k + 1} {n = n} width (omega arith))))
          ∙ mod-eq_of_lt (plus_below width (word_of width le raw k) _)
          ∙ sym (held-sample raw channels width le start run.here sums-held k inside)

      pub pixels_ran : {sums : List ℕ} → Held new (length raw - channels * width) channels width out_le start sums → RanInto raw 0 channels width le out_le start sums new
      pixels_ran {sums} e = record {
        sums =
            e
            ∙ filled-same channels _ (λ j. resumed raw channels width le start (n - channels + j)) start last_word
            ∙ sym (last-sums raw channels width le start run.here sums-held n (omega arith) pixels_are deep);
        wrote = new_is;
      }
