-- Two runs of words of a row, the second from where the first ended, are one run. Assumes nothing.
use Rattle.std.specs.Prelude.{Ok, Err}
use Prim.{Unit}
use Rattle.std.proofs.Common.{◌≡◌, ℕ, zero, suc, ◌+◌, ◌-◌, ◌*◌, ◌/◌, ◌%◌, ◌<◌, ◌≤◌, Bool, true, List, ◌++◌, length, get_or, take, drop, sym, refl, ap, ◌∙◌, add-zero, add_assoc, add-suc, mul-le-mul_right, mul_assoc, div-lt_iff_lt-mul, add-mul, mul-le-mul, add_comm, mul-pos, one-mul, div-add-mod', zero-add, mul-div_cancel, arith, le-ltb, lt-ltb, eq-eqb, ne_eqb}
use native.Mathlib.Nat.{mod-add-mod, add-mul-div_right, add-mul-mod_self_right, mul-mod_left, mod_self, sub-zero, zero-div, zero-mod}
use native.Mathlib.Decide.{dec_lt}
use Rattle.answer.specs.Outcome.{Outcome, number, First, Sound, instead}
use Rattle.answer.specs.Table.{table}
use Rattle.answer.specs.declared.Refusal.{Refusal}
use Rattle.answer.proofs.Promised.{refuses, finishes, first-refused, sound-done}
use Rattle.answer.proofs.Filling.{part, length_part, table_same, length-filled, halfway, front-filled, both_filled}
use Rattle.words.specs.Digits.{digit}
use Rattle.words.specs.Word.{ordered, word_at, plus}
use Rattle.words.specs.Promises.{served}
use Rattle.words.proofs.Served.{served-some}
use Rattle.samples.specs.Sample.{word_of}
use Rattle.samples.proofs.Parts.{part_word}
use Rattle.rows.specs.Resume.{sums_after, resumed_at, resume_faults, RowResumed, leading, RunFits, RanInto, PixelsFit}
use Rattle.rows.proofs.Running.{after-long}

-- the sums go by the words, and go on where they are taken up again
after_same : (first channels width : ℕ) (v w : ℕ → ℕ) (start : List ℕ) (n : ℕ) → ((i : ℕ) → i < n → v i ≡ w i) → sums_after first channels width v start n ≡ sums_after first channels width w start n
after_same first channels width v w start zero e = refl
after_same first channels width v w start (suc n) e = rw (after_same first channels width v w start n (λ i h. e i (omega arith)), e n (omega arith))

after_on : (first channels width : ℕ) (w : ℕ → ℕ) (start : List ℕ) (n m : ℕ) → sums_after ((first + n) % channels) channels width (λ i. w (n + i)) (sums_after first channels width w start n) m ≡ sums_after first channels width w start (n + m)
after_on first channels width w start n zero = rw (add-zero n)
after_on first channels width w start n (suc m) =
    rw (add-suc n m, after_on first channels width w start n m, mod-add-mod (first + n) channels m, add_assoc first n m)

-- two runs, the second from where the first ended
module _ (le out_le : Bool) {raw : List ℕ} {first channels width : ℕ} {start old : List ℕ} (fits : RunFits raw first channels width start old) (c : ℕ) (inside : c ≤ length raw) (words : c % width ≡ 0) where
  abbrev w : ℕ → ℕ
  w = word_of width le raw

  wide : 0 < width
  wide = (served-some width fits.takes).0

  abbrev a : List ℕ
  a = part 0 c raw

  abbrev b : List ℕ
  b = part c (length raw) raw

  a-long : length a ≡ c
  a-long = length_part 0 c raw (omega arith) inside ∙ omega arith

  b-long : length b ≡ length raw - c
  b-long = length_part c (length raw) raw inside (omega arith)

  abbrev n : ℕ
  n = c / width

  c_words : n * width ≡ c
  c_words = omega (arith, div-add-mod' c width, words)

  front-word : (i : ℕ) → i < n → word_of width le a i ≡ w i
  front-word i h =
      part_word raw 0 c (i * width) width le (omega (arith, c_words, add-mul i 1 width, one-mul width, mul-le-mul_right {m = i + 1} {n = n} width (omega arith)))
      ∙ ap (λ (k : ℕ). word_at raw k width le) (zero-add (i * width))

  rest_words : (length raw - c) % width ≡ 0
  rest_words = sym (add-mul-mod_self_right (length raw - c) n width) ∙ ap (λ (k : ℕ). k % width) (omega (arith, c_words, inside)) ∙ fits.words

  rest_count : n + (length raw - c) / width ≡ length raw / width
  rest_count = add_comm n ((length raw - c) / width) ∙ sym (add-mul-div_right (length raw - c) n wide) ∙ ap (λ (k : ℕ). k / width) (omega (arith, c_words, inside))

  back-word : (i : ℕ) → i < (length raw - c) / width → word_of width le b i ≡ w (n + i)
  back-word i h =
      let m = (length raw - c) / width in
      part_word raw c (length raw) (i * width) width le (omega (arith, div-add-mod' (length raw - c) width, add-mul i 1 width, one-mul width, mul-le-mul_right {m = i + 1} {n = m} width (omega arith)))
      ∙ ap (λ (k : ℕ). word_at raw k width le) (omega (arith, c_words, add-mul n i width))

  pub front-run : RunFits a first channels width start (part 0 c old)
  front-run = record {
    takes = fits.takes;
    here = fits.here;
    held = fits.held;
    long = fits.long;
    words = rw a-long words;
    same = length_part 0 c old (omega arith) (omega (arith, fits.same)) ∙ sym (length_part 0 c raw (omega arith) inside);
  }

  module _ {one x : List ℕ} (before : RanInto a first channels width le out_le start one x) where
    one-is : one ≡ sums_after first channels width w start n
    one-is = before.sums ∙ rw a-long (after_same first channels width (word_of width le a) w start n front-word)

    abbrev out : List ℕ
    out = halfway c old x

    x_is : x ≡ table (c - 0) (λ k. resumed_at raw first channels width le out_le start (0 + k))
    x_is =
        let none : c - 0 ≡ c = omega arith in
        rw none
        (before.wrote
        ∙ rw a-long
        (table_same c _ _ (λ k h.
        let i = k / width in
        let less : i < n = (div-lt_iff_lt-mul {k = width} {x = k} {y = n} wide).1 (omega (arith, c_words)) in
        rw (zero-add k) (ap (digit 256 (ordered out_le width (k % width)))
        (rw (front-word i less) (ap (λ (l : List ℕ). plus width (w i) (get_or l ((first + i) % channels) 0)) (after_same first channels width (word_of width le a) w start i (λ q l. front-word q (omega arith)))))))))

    pub out_long : length out ≡ length old
    out_long = ap length (front-filled (resumed_at raw first channels width le out_le start) c old x x_is) ∙ length-filled c _ old (omega (arith, fits.same))

    pub back-run : (next : ℕ) → next < channels → RunFits b next channels width one (part c (length out) out)
    back-run next h = record {
      takes = fits.takes;
      here = h;
      held = fits.held;
      long = omega (arith, fits.long, ap length one-is, after-long first channels width w start n);
      words = rw b-long rest_words;
      same = length_part c (length out) out (omega (arith, out_long, fits.same)) (omega arith) ∙ omega (arith, out_long, fits.same, b-long);
    }

    module _ {next : ℕ} (on : next ≡ (first + c / width) % channels) {two y : List ℕ} (then : RanInto b next channels width le out_le one two y) where
      y_is : y ≡ table (length old - c) (λ k. resumed_at raw first channels width le out_le start (c + k))
      y_is =
          then.wrote
          ∙ rw (b-long, fits.same)
          (table_same (length raw - c) _ _ (λ k h.
          let i = k / width in
          let less : i < (length raw - c) / width = (div-lt_iff_lt-mul {k = width} {x = k} {y = (length raw - c) / width} wide).1 (omega (arith, div-add-mod' (length raw - c) width, rest_words)) in
          let at : c + k ≡ k + n * width = omega (arith, c_words) in
          let place : (first + (n + i)) % channels ≡ ((first + n) % channels + i) % channels = sym (mod-add-mod (first + n) channels i ∙ ap (λ (z : ℕ). z % channels) (add_assoc first n i)) in
          rw (at, add-mul-mod_self_right k n width, add-mul-div_right k n wide, add_comm i n)
          (ap (digit 256 (ordered out_le width (k % width)))
          (rw (back-word i less, on, place, one-is)
          (ap (λ (l : List ℕ). plus width (w (n + i)) (get_or l (((first + n) % channels + i) % channels) 0))
          (after_same ((first + n) % channels) channels width (word_of width le b) (λ q. w (n + q)) _ i (λ q l. back-word q (omega arith)) ∙ after_on first channels width w start n i))))))

      pub both_ran : RanInto raw first channels width le out_le start two (take c out ++ (y ++ drop (length out - c) (drop c out)))
      both_ran = record {
        sums =
            then.sums
            ∙ rw (b-long, on, one-is)
            (after_same ((first + n) % channels) channels width (word_of width le b) (λ q. w (n + q)) _ ((length raw - c) / width) back-word
            ∙ after_on first channels width w start n ((length raw - c) / width)
            ∙ ap (sums_after first channels width w start) rest_count);
        wrote = rw out_long (both_filled (resumed_at raw first channels width le out_le start) c old x y (omega (arith, fits.same)) x_is y_is) ∙ ap (λ (k : ℕ). table k (resumed_at raw first channels width le out_le start)) fits.same;
      }

-- whole pixels first
module _ {raw : List ℕ} {channels width : ℕ} {start old : List ℕ} (fits : RunFits raw 0 channels width start old) where
  wide_8 : (0 < width) × (width ≤ 8)
  wide_8 = served-some width fits.takes

  pub pixel_fits : channels * width ≤ 512
  pixel_fits = omega (arith, mul-le-mul fits-few wide_8.1)
    where
      fits-few : channels ≤ 64
      fits-few = fits.held

  pub pixel_some : 0 < channels * width
  pixel_some = mul-pos fits.here wide_8.0

  abbrev whole : ℕ
  whole = length raw - length raw % (channels * width)

  pub whole-inside : whole ≤ length raw
  whole-inside = omega arith

  whole_is : whole ≡ length raw / (channels * width) * channels * width
  whole_is = omega (arith, div-add-mod' (length raw) (channels * width), mul_assoc (length raw / (channels * width)) channels width)

  pub whole_words : whole % width ≡ 0
  whole_words = rw whole_is (mul-mod_left (length raw / (channels * width) * channels) width)

  pub whole-pixels : 0 ≡ (0 + whole / width) % channels
  whole-pixels = sym (rw (zero-add, whole_is, mul-div_cancel (length raw / (channels * width) * channels) wide_8.0) (mul-mod_left (length raw / (channels * width)) channels))

  pub front-pixels : PixelsFit (part 0 whole raw) channels width start (part 0 whole old)
  front-pixels = record {
    run = front-run true true fits whole whole-inside whole_words;
    pixels = rw (length_part 0 whole raw (omega arith) whole-inside) (ap (λ (n : ℕ). n % (channels * width)) (omega (arith, whole_is, mul_assoc (length raw / (channels * width)) channels width)) ∙ mul-mod_left (length raw / (channels * width)) (channels * width));
  }

-- no words are the same from any channel
any_channel : {raw : List ℕ} {first next channels width : ℕ} {le out_le : Bool} {start after new : List ℕ} → length raw ≡ 0 → RanInto raw first channels width le out_le start after new → RanInto raw next channels width le out_le start after new
any_channel {width = width} e then = record { sums = then.sums ∙ rw (e, zero-div width); wrote = then.wrote ∙ rw e }

-- up to a pixel's start
pub left-fits : (first channels width : ℕ) → channels ≤ 64 → served width ≡ true → (channels - first) * width ≤ 512
left-fits first channels width few takes = omega (arith, mul-le-mul less (served-some width takes).1)
  where
    less : channels - first ≤ 64
    less = omega (arith, few)

module _ {raw : List ℕ} {first channels width : ℕ} {start old : List ℕ} (fits : RunFits raw first channels width start old) (lead : ℕ) (is : lead ≡ leading (length raw) first channels width) where
  abbrev left : ℕ
  left = (channels - first) * width

  -- nothing stands before it, or all that there is, or the rest of the pixel
  led : (P : ℕ → Type 0) → (first ≡ 0 → P 0) → P (length raw) → (left ≤ length raw → P left) → P lead
  led P none short long = rw is (by (dec_lt 0 first) (dec_lt (length raw) left))
    where
      by : Dec (0 < first) → Dec (length raw < left) → P (leading (length raw) first channels width)
      by (no g) some = let e : first ≡ 0 = omega arith in rw (eq-eqb first 0 e) (none e)
      by (yes h) (yes l) = rw (ne_eqb first 0 (λ e. omega arith), lt-ltb (length raw) left l) short
      by (yes h) (no g) = let l : left ≤ length raw = omega arith in rw (ne_eqb first 0 (λ e. omega arith), le-ltb (length raw) left l) (long l)

  pub lead_inside : lead ≤ length raw
  lead_inside = led (λ c. c ≤ length raw) (λ e. omega arith) (omega arith) (λ l. l)

  pub lead_words : lead % width ≡ 0
  lead_words = led (λ c. c % width ≡ 0) (λ e. zero-mod width) fits.words (λ l. mul-mod_left (channels - first) width)

  left_over : 0 ≡ (first + left / width) % channels
  left_over =
      let all : first + (channels - first) ≡ channels = omega (arith, fits.here) in
      sym (rw (mul-div_cancel (channels - first) (served-some width fits.takes).0, all) (mod_self channels))

  -- so the rest goes on at a pixel's start
  pub lead_on : {le out_le : Bool} {one two y : List ℕ} → RanInto (part lead (length raw) raw) 0 channels width le out_le one two y → RanInto (part lead (length raw) raw) ((first + lead / width) % channels) channels width le out_le one two y
  lead_on {le} {out_le} {one} {two} {y} =
      led
      (λ c. RanInto (part c (length raw) raw) 0 channels width le out_le one two y → RanInto (part c (length raw) raw) ((first + c / width) % channels) channels width le out_le one two y)
      (λ e then. let start : (first + 0 / width) % channels ≡ 0 = rw (e, zero-div width) (zero-mod channels) in rw start then)
      (λ then. any_channel (length_part (length raw) (length raw) raw (omega arith) (omega arith) ∙ omega arith) then)
      (λ l then. rw (← left_over) then)

-- how the promise is met
module _ {raw : List ℕ} {first channels width : ℕ} {le out_le : Bool} {start old : List ℕ} where
  pub resume_refused : {kind : Refusal} → First (resume_faults raw first channels width start old) (number kind) → RowResumed raw first channels width le out_le start old (Err kind) start old
  resume_refused {kind} r = record {
    writes = refuses (resume_faults raw first channels width start old) tt _ old r;
    sums = sym (ap (λ (o : Outcome (Unit {0})). instead o (sums_after first channels width (word_of width le raw) start (length raw / width)) start) (first-refused tt r));
  }

  pub resume_none : Sound (resume_faults raw first channels width start old) → length raw ≡ 0 → RowResumed raw first channels width le out_le start old (Ok tt) start old
  resume_none s none =
      let words = word_of width le raw in
      let same : sums_after first channels width words start (length raw / width) ≡ start = rw (none, zero-div width) in
      record {
        writes = finishes (resume_faults raw first channels width start old) tt (length raw) _ old old s (rw none);
        sums = sym (ap (λ (o : Outcome (Unit {0})). instead o (sums_after first channels width words start (length raw / width)) start) (sound-done tt s) ∙ same);
      }

  pub resume_done : {after front : List ℕ} → Sound (resume_faults raw first channels width start old) → RanInto raw first channels width le out_le start after front → RowResumed raw first channels width le out_le start old (Ok tt) after (halfway (length raw) old front)
  resume_done {after} {front} s is = record {
    writes = finishes (resume_faults raw first channels width start old) tt (length raw) _ old _ s (front-filled _ (length raw) old front (is.wrote ∙ rw (sub-zero (length raw)) (table_same (length raw) _ _ (λ k h. ap (resumed_at raw first channels width le out_le start) (sym (zero-add k))))));
    sums = is.sums ∙ sym (ap (λ (o : Outcome (Unit {0})). instead o (sums_after first channels width (word_of width le raw) start (length raw / width)) start) (sound-done tt s));
  }
