-- The loops over a row, for every width: their invariants, how a turn keeps each, and what it comes to at the end. Assumes nothing.
use Rattle.std.proofs.Common.{◌≡◌, ℕ, zero, suc, ◌+◌, ◌-◌, ◌*◌, ◌/◌, ◌%◌, ◌<◌, ◌≤◌, Bool, true, false, ltb, List, [], ◌∷◌, length, get_or, sym, refl, ap, ◌∙◌, add-zero, mod-lt, mod-eq_of_lt, mul_comm, add-mul, one-mul, div-add-mod', le-div_iff_mul-le, le-mul_of_pos_right, add-one, arith, le-ltb, lt-ltb}
use native.Mathlib.Nat.{mul-mod_left, zero-mod, add-mod_right, mod-add-mod, add-mod-mod, mul-sub, sub-zero}
use native.Mathlib.Decide.{dec_lt}
use Rattle.answer.specs.Outcome.{pick}
use lib.Seq.{take-length}
use Rattle.answer.specs.Table.{filled}
use Rattle.answer.proofs.Filling.{part, length-stores, stores-filled, filled-front, filled_already, filled-same}
use Rattle.words.specs.Digits.{digit}
use Rattle.words.specs.Word.{ordered, word_at, Put, modulus, plus, minus}
use Rattle.words.proofs.Words.{digits_word}
use Rattle.laws.proofs.Groups.{group_room, groups-words}
use Rattle.samples.specs.Sample.{alone, word_of, sample, difference, stored_at}
use Rattle.samples.specs.declared.Strip.{Strip}
use Rattle.samples.proofs.Sums.{sample-alone, sample-later, difference-later}
use Rattle.samples.proofs.Stored.{stored_byte}
use Rattle.samples.proofs.Undo.{sample_below}
use Rattle.rows.specs.Row.{one_row, RowFits, FewFit, Led, resumed_in, resumed, ResumedInto}
use Rattle.laws.proofs.Lists.{nothing, zeros}

-- the place of the next of parts of k bytes
pub next_at : (n k : ℕ) → (n + 1) * k ≡ n * k + k
next_at n k = omega (arith, add-mul n 1 k, one-mul k)

-- the buffer holds the words v, stored, up to `at`, of n bytes in all
pub record Upto (v : ℕ → ℕ) (width : ℕ) (out_le : Bool) (n : ℕ) (old : List ℕ) (at : ℕ) (out : List ℕ) : Type 0 where
  pub inside : at ≤ n
  pub words : at % width ≡ 0
  pub same : length out ≡ length old
  pub so_far : out ≡ filled at (stored_at width out_le v) old

pub upto_none : (v : ℕ → ℕ) (width : ℕ) (out_le : Bool) (n : ℕ) (old : List ℕ) → Upto v width out_le n old 0 old
upto_none v width out_le n old = record { inside = omega arith; words = zero-mod width; same = refl; so_far = refl }

module _ {v : ℕ → ℕ} {width : ℕ} {out_le : Bool} {n : ℕ} {old : List ℕ} {at : ℕ} {out : List ℕ} (is : Upto v width out_le n old at out) where
  -- `at` in words
  pub back_at : at / width * width ≡ at
  back_at = omega (arith, div-add-mod' at width, is.words)

  module _ (whole : n % width ≡ 0) (more : at < n) where
    pub turn_room : at + width ≤ n
    turn_room = group_room width n at whole is.words more

    pub in_words : 0 < width → at / width < n / width
    in_words some =
        rw add-one at ((le-div_iff_mul-le {k = width} {x = at / width + 1} {y = n} some).1 (omega (arith, turn_room, back_at, add-mul (at / width) 1 width, one-mul width)))

    pub turned : (fits : n ≤ length old) (x : ℕ) (new : List ℕ) → x ≡ v (at / width) → Put out at width out_le x new → Upto v width out_le n old (at + width) new
    turned fits x new e put = record {
      inside = turn_room;
      words = add-mod_right at width ∙ is.words;
      same = ap length put ∙ length-stores out at width _ ∙ is.same;
      so_far = put ∙ stores-filled (stored_at width out_le v) _ old out at width (λ p h. rw e (sym (rw back_at at (stored_byte width out_le v (at / width) p h)))) (omega (arith, turn_room)) is.so_far;
    }

  pub ended : n ≤ at → out ≡ filled n (stored_at width out_le v) old
  ended l = let all : at ≡ n = omega (arith, is.inside) in rw all at is.so_far

-- a row's sample is alone exactly if it is one of the first `channels`
pub later : (raw : List ℕ) (channels width n : ℕ) → n < length raw / width → channels ≤ n → alone (one_row raw channels width) true n ≡ false
later raw channels width n h d = rw (mod-eq_of_lt h) (le-ltb n channels d)

-- the sum that is carried into word n of a row that is taken up: the sample `channels` before it, or what the row starts from
pub carried : List ℕ → ℕ → ℕ → Bool → List ℕ → ℕ → ℕ
carried raw channels width le start n = pick (ltb n channels) (get_or start n 0) (resumed raw channels width le start (n - channels))

pub carried_first : (raw : List ℕ) (channels width : ℕ) (le : Bool) (start : List ℕ) (n : ℕ) → n < channels → carried raw channels width le start n ≡ get_or start n 0
unfolding carried
carried_first raw channels width le start n h = rw (lt-ltb n channels h)

pub carried_later : (raw : List ℕ) (channels width : ℕ) (le : Bool) (start : List ℕ) (n : ℕ) → carried raw channels width le start (n + channels) ≡ resumed raw channels width le start n
unfolding carried
carried_later raw channels width le start n =
    let back : n + channels - channels ≡ n = omega arith in rw (le-ltb (n + channels) channels (omega arith), back)

pub carried_on : (raw : List ℕ) (channels width : ℕ) (le : Bool) (start : List ℕ) (n : ℕ) → 0 < channels → n < length raw / width → resumed raw channels width le start n ≡ plus width (word_of width le raw n) (carried raw channels width le start n)
unfolding carried
carried_on raw channels width le start n some h = by (dec_lt n channels)
  where
    g : Strip
    g = one_row raw channels width

    by : Dec (n < channels) → resumed raw channels width le start n ≡ plus width (word_of width le raw n) (pick (ltb n channels) (get_or start n 0) (resumed raw channels width le start (n - channels)))
    by (yes l) =
        rw (lt-ltb n channels l, mod-eq_of_lt l, sample-alone g true le raw n (rw (mod-eq_of_lt h) (lt-ltb n channels l)))
        (mod-add-mod (word_of width le raw n) (modulus width) (get_or start n 0))
    by (no m) =
        let deep : channels ≤ n = omega arith in
        let before : n - channels + channels ≡ n = omega arith in
        let same : n % channels ≡ (n - channels) % channels = rw before at (add-mod_right (n - channels) channels) in
        let s = sample g true le raw (n - channels) in
        let t = get_or start ((n - channels) % channels) 0 in
        let w = word_of width le raw n in
        let together : w + s + t ≡ w + (s + t) = omega arith in
        rw (le-ltb n channels deep, same, sample-later g true le raw n some (later raw channels width n h deep))
        (mod-add-mod (w + s) (modulus width) t ∙ ap (λ (x : ℕ). x % modulus width) together ∙ sym (add-mod-mod w (s + t) (modulus width)))

-- rows that start from nothing are the strip's
pub resumed-none : (raw : List ℕ) (g : Strip) (le out_le : Bool) (old : List ℕ) (n : ℕ) → 0 < g.channels → filled (length raw) (stored_at g.width out_le (resumed_in g raw le (nothing n))) old ≡ filled (length raw) (stored_at g.width out_le (sample g true le raw)) old
resumed-none raw g le out_le old n some =
    filled-same (length raw) _ _ old (λ k h.
    ap (digit 256 (ordered out_le g.width (k % g.width)))
    (rw (zeros n (k / g.width % g.channels), add-zero) (mod-eq_of_lt (sample_below g true le raw some (k / g.width)))))

-- a row that is lent anew is the row
pub all_of : (l : List ℕ) → part 0 (length l) l ≡ l
all_of l = rw (sub-zero (length l)) (take-length l)

-- a row of at most four channels fits the loop of so many
pub few-fits : {raw : List ℕ} {channels width : ℕ} {start old : List ℕ} {n : ℕ} → FewFit raw channels width start old → channels ≡ n → FewFit (part 0 (length raw) raw) n width start old
few-fits {raw} row e = rw (all_of raw) (rw e at row)

-- its sums as four numbers
abbrev pub four_of : List ℕ → List ℕ
four_of start = get_or start 0 0 ∷ get_or start 1 0 ∷ get_or start 2 0 ∷ get_or start 3 0 ∷ []

pub four-fit : {raw : List ℕ} {channels width : ℕ} {start old : List ℕ} → FewFit raw channels width start old → FewFit raw channels width (four_of start) old
four-fit fit = record { row = record { takes = fit.row.takes; fits = fit.row.fits; held = fit.few }; few = fit.few; four = omega arith }

four_same : (start : List ℕ) (j : ℕ) → j < 4 → get_or (four_of start) j 0 ≡ get_or start j 0
four_same start zero h = refl
four_same start (suc zero) h = refl
four_same start (suc (suc zero)) h = refl
four_same start (suc (suc (suc zero))) h = refl
four_same start (suc (suc (suc (suc j)))) h = absurd (omega arith)

pub four-all : (raw : List ℕ) (channels width : ℕ) (le out_le : Bool) (start old new : List ℕ) → FewFit raw channels width start old → ResumedInto raw channels width le out_le (four_of start) old new → ResumedInto raw channels width le out_le start old new
four-all raw channels width le out_le start old new fit is =
    is
    ∙ filled-same (length raw) _ _ old (λ k h.
    ap (λ (s : ℕ). digit 256 (ordered out_le width (k % width)) (plus width (sample (one_row raw channels width) true le raw (k / width)) s))
    (four_same start (k / width % channels) (omega (arith, fit.few, mod-lt (k / width) fit.row.fits.channel))))

-- a pixel holds a word
pub pixel_wide : {raw : List ℕ} {channels width : ℕ} {out : List ℕ} → RowFits raw channels width out → width ≤ channels * width
pixel_wide {raw} {channels} {width} fits = omega (arith, le-mul_of_pos_right {m = channels} width fits.channel, mul_comm width channels)

-- several channels: word n, with the sample or the word `channels` before it, step bytes back
module _ {raw : List ℕ} {channels width : ℕ} {out_le : Bool} {old : List ℕ} {at : ℕ} {out : List ℕ} {v : ℕ → ℕ} (fits : RowFits raw channels width old) (is : Upto v width out_le (length raw) old at out) (past : channels * width ≤ at) where
  words-whole : length raw % width ≡ 0
  words-whole = groups-words (length raw) channels width fits.groups

  deep_words : channels ≤ at / width
  deep_words = (le-div_iff_mul-le {k = width} fits.wide).1 past

  step_back : (at / width - channels) * width ≡ at - channels * width
  step_back =
      mul_comm (at / width - channels) width
      ∙ mul-sub width (at / width) channels
      ∙ omega (arith, mul_comm width (at / width), mul_comm width channels, back_at is)

  module _ (more : at < length raw) where
    pub trail_room : at + width ≤ length raw
    trail_room = turn_room is words-whole more

    pub trail_later : alone (one_row raw channels width) true (at / width) ≡ false
    trail_later = later raw channels width (at / width) (in_words is words-whole more fits.wide) deep_words

    pub word-here : (le : Bool) → word_of width le raw (at / width) ≡ word_at raw at width le
    word-here le = ap (λ (k : ℕ). word_at raw k width le) (back_at is)

    pub word_before : (le : Bool) → word_of width le raw (at / width - channels) ≡ word_at raw (at - channels * width) width le
    word_before le = ap (λ (k : ℕ). word_at raw k width le) step_back

    -- what is read back from the buffer is the word stored there
    pub stored_before : v (at / width - channels) < modulus width → word_at out (at - channels * width) width out_le ≡ v (at / width - channels)
    stored_before small =
        let wide = pixel_wide fits in
        digits_word out (at - channels * width) width out_le (v (at / width - channels)) (λ p h.
        ap (λ (l : List ℕ). get_or l (at - channels * width + p) 0) is.so_far
        ∙ filled-front at (stored_at width out_le v) old (at - channels * width + p) (omega arith)
        ∙ (rw step_back at (stored_byte width out_le v (at / width - channels) p h)))
        ∙ mod-eq_of_lt small

module _ (le : Bool) {raw : List ℕ} {channels width : ℕ} {out_le : Bool} {old : List ℕ} {at : ℕ} {out : List ℕ} (fits : RowFits raw channels width old) (past : channels * width ≤ at) (more : at < length raw) where
  pub trail_turned : Upto (sample (one_row raw channels width) true le raw) width out_le (length raw) old at out → (x : ℕ) (new : List ℕ) → x ≡ plus width (word_at raw at width le) (word_at out (at - channels * width) width out_le) → Put out at width out_le x new → Upto (sample (one_row raw channels width) true le raw) width out_le (length raw) old (at + width) new
  trail_turned is x new e put =
      let v = sample (one_row raw channels width) true le raw in
      let n = at / width in
      let small = sample_below (one_row raw channels width) true le raw fits.channel (n - channels) in
      turned is (groups-words (length raw) channels width fits.groups) more fits.room x new
      (e
      ∙ rw (stored_before fits is past more small, ← word-here fits is past more le)
      (sym (sample-later (one_row raw channels width) true le raw n fits.channel (trail_later fits is past more))))
      put

  pub difference_turned : Upto (difference (one_row raw channels width) true le raw) width out_le (length raw) old at out → (x : ℕ) (new : List ℕ) → x ≡ minus width (word_at raw at width le) (word_at raw (at - channels * width) width le) → Put out at width out_le x new → Upto (difference (one_row raw channels width) true le raw) width out_le (length raw) old (at + width) new
  difference_turned is x new e put =
      let v = difference (one_row raw channels width) true le raw in
      let n = at / width in
      turned is (groups-words (length raw) channels width fits.groups) more fits.room x new
      (e
      ∙ rw (← word_before fits is past more le, ← word-here fits is past more le)
      (sym (difference-later (one_row raw channels width) true le raw n (trail_later fits is past more))))
      put

-- a row whose first words are written begins past them
pub led_upto : (v : ℕ → ℕ) (raw : List ℕ) (channels width : ℕ) (out_le : Bool) (out : List ℕ) → Led (stored_at width out_le v) raw channels width out → Upto v width out_le (length raw) out (channels * width) out
led_upto v raw channels width out_le out led = record {
  inside = led.step;
  words = mul-mod_left channels width;
  same = refl;
  so_far = sym (filled_already (channels * width) (stored_at width out_le v) out led.front);
}
