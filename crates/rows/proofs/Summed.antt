-- The loop over the pixels of a row of N channels: the sums of a pixel's channels, and what is stored of it. Assumes nothing.
use Rattle.std.proofs.Common.{◌≡◌, ℕ, ◌+◌, ◌*◌, ◌/◌, ◌%◌, ◌<◌, ◌≤◌, Bool, List, length, get_or, set, take, sym, ◌∙◌, mul_assoc, add-mul, one-mul, zero-mul, mul-le-mul_right, mul-div_cancel, le-div_iff_mul-le, mul-pos, length-set, get_or-set_same, get_or-set_other, get_or-take, arith}
use native.Mathlib.Decide.{dec_lt}
use Rattle.std.proofs.lemmas.List.{length-take-le}
use Rattle.words.specs.Word.{word_at, Put, plus}
use Rattle.laws.proofs.Groups.{groups-words}
use Rattle.rows.specs.Row.{HeldFits, resumed}
use Rattle.rows.proofs.Loops.{Upto, upto_none, turned, carried, carried_first, carried_later, carried_on}

-- the sums once the words of the channels before c are added to them, in pixel n
pub record Summed (raw : List ℕ) (channels width : ℕ) (le : Bool) (start : List ℕ) (n c : ℕ) (sums : List ℕ) : Type 0 where
  pub same : length sums ≡ channels
  pub before : (j : ℕ) → j < c → get_or sums j 0 ≡ resumed raw channels width le start (n * channels + j)
  pub after : (j : ℕ) → c ≤ j → j < channels → get_or sums j 0 ≡ carried raw channels width le start (n * channels + j)

-- the row begins with those that are lent
pub summed-first : (raw : List ℕ) (channels width : ℕ) (le : Bool) (start : List ℕ) → channels ≤ length start → Summed raw channels width le start 0 0 (take channels start)
summed-first raw channels width le start held = record {
  same = length-take-le channels start held;
  before = λ j h. absurd (omega arith);
  after = λ j l h.
      let none : 0 * channels + j ≡ j = omega (arith, zero-mul channels) in
      rw none (get_or-take channels start j 0 h ∙ sym (carried_first raw channels width le start j h));
}

-- and the next pixel with the samples of this one
pub summed-next : {raw : List ℕ} {channels width : ℕ} {le : Bool} {start : List ℕ} {n : ℕ} {sums : List ℕ} → Summed raw channels width le start n channels sums → Summed raw channels width le start (n + 1) 0 sums
summed-next {raw} {channels} {width} {le} {start} {n} is = record {
  same = is.same;
  before = λ j h. absurd (omega arith);
  after = λ j l h.
      let next : (n + 1) * channels + j ≡ n * channels + j + channels = omega (arith, add-mul n 1 channels, one-mul channels) in
      rw next (is.before j h ∙ sym (carried_later raw channels width le start (n * channels + j)));
}

module _ {raw : List ℕ} {channels width : ℕ} {start old : List ℕ} (fits : HeldFits raw channels width start old) where
  pixel_some : 0 < channels * width
  pixel_some = mul-pos fits.fits.channel fits.fits.wide

  row_words : length raw % width ≡ 0
  row_words = groups-words (length raw) channels width fits.fits.groups

  -- word c of pixel n
  module _ {n c : ℕ} (more : n < length raw / (channels * width)) (here : c < channels) where
    pub place_is : n * (channels * width) + c * width ≡ (n * channels + c) * width
    place_is = omega (arith, mul_assoc n channels width, add-mul (n * channels) c width)

    pub place_room : n * (channels * width) + c * width + width ≤ length raw
    place_room =
        omega (arith, (le-div_iff_mul-le {k = channels * width} {x = n + 1} {y = length raw} pixel_some).0 (omega arith), add-mul n 1 (channels * width), one-mul (channels * width), mul-le-mul_right {m = c + 1} {n = channels} width (omega arith), add-mul c 1 width, one-mul width)

    word_below : n * channels + c < length raw / width
    word_below = omega (arith, (le-div_iff_mul-le {k = width} {x = n * channels + c + 1} {y = length raw} fits.fits.wide).1 (omega (arith, place_room, place_is, add-mul (n * channels + c) 1 width, one-mul width)))

    pub summed-on : {le : Bool} {sums : List ℕ} → Summed raw channels width le start n c sums → (x : ℕ) → x ≡ plus width (word_at raw (n * (channels * width) + c * width) width le) (get_or sums c 0) → Summed raw channels width le start n (c + 1) (set sums c x)
    summed-on {le} {sums} is x e = record {
      same = rw length-set is.same;
      before = λ j h. by j h (dec_lt j c);
      after = λ j l h. get_or-set_other sums c j x 0 (λ same. omega arith) ∙ is.after j (omega arith) h;
    }
      where
        value : x ≡ resumed raw channels width le start (n * channels + c)
        value = e ∙ rw (place_is, is.after c (omega arith) here) (sym (carried_on raw channels width le start (n * channels + c) fits.fits.channel word_below))

        by : (j : ℕ) → j < c + 1 → Dec (j < c) → get_or (set sums c x) j 0 ≡ resumed raw channels width le start (n * channels + j)
        by j h (yes l) = get_or-set_other sums c j x 0 (λ same. omega arith) ∙ is.before j l
        by j h (no m) = let at : j ≡ c = omega arith in rw at (get_or-set_same sums c x 0 (omega (arith, is.same)) ∙ value)

    pub stored-on : {le out_le : Bool} {sums out : List ℕ} → Upto (resumed raw channels width le start) width out_le (length raw) old ((n * channels + c) * width) out → Summed raw channels width le start n channels sums → (new : List ℕ) → Put out (n * (channels * width) + c * width) width out_le (get_or sums c 0) new → Upto (resumed raw channels width le start) width out_le (length raw) old ((n * channels + (c + 1)) * width) new
    stored-on {le} {out_le} {sums} {out} is done new put =
        let i = n * channels + c in
        let next : (n * channels + (c + 1)) * width ≡ i * width + width = omega (arith, add-mul i 1 width, one-mul width) in
        let back : i * width / width ≡ i = mul-div_cancel i fits.fits.wide in
        rw next (turned is row_words (omega (arith, place_room, place_is, fits.fits.wide)) fits.fits.room (get_or sums c 0) new (done.before c here ∙ rw back) (rw place_is at put))

  pub row_begun : (le out_le : Bool) → Upto (resumed raw channels width le start) width out_le (length raw) old (0 * channels * width) old
  row_begun le out_le =
      let none : 0 * channels * width ≡ 0 = omega (arith, zero-mul channels, zero-mul width) in
      rw none (upto_none _ _ _ _ _)
