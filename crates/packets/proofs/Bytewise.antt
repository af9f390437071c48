-- One more byte: what the positions, the unfinished word and the sums become, and the sample that a finished word is. Assumes nothing.
use mathlib.Core.Path.{◌≡◌, refl, sym, ap, ◌∙◌}
use mathlib.Core.Bool.{Bool, true, false, not, ◌||◌}
use mathlib.Core.List.{List}
use Prim.Native.Nat.{ℕ, ◌+◌, ◌-◌, ◌*◌, ◌/◌, ◌%◌, ◌≤◌, ◌<◌}
use native.Mathlib.Nat.{div-add-mod', mod-lt, zero-mod, add-zero, zero-add, le-div_iff_mul-le, one-mul, add-mul, mul-div_cancel}
use native.Mathlib.Numerals.{add-one}
use native.Mathlib.Decide.{dec_lt}
use native.Mathlib.Omega.{arith}
use borrow.Author.Tests.{lt-ltb, le-ltb, eq-eqb, ne_eqb, ltb-true, ltb-false}
use lib.Dec.{ltb, eqb}
use lib.ListN.{get_or, set}
use Rattle.answer.specs.Outcome.{pick}
use Rattle.answer.specs.Table.{table}
use Rattle.answer.proofs.Filling.{table_at, table_same}
use Rattle.words.specs.Word.{word_at, plus}
use Rattle.words.proofs.Words.{word_same}
use Rattle.samples.specs.Sample.{Good, alone, word_of}
use Rattle.samples.proofs.Sums.{sample-alone, sample-later}
use Rattle.samples.proofs.Strips.{width_fits}
use Rattle.packets.specs.declared.Plan.{Plan}
use Rattle.packets.specs.State.{geometry, per_row, sample_of, latest, tail_at, sum_at, tail_of, sums_of}
use Rattle.packets.specs.Promises.{no_tail, no_sums}
use Rattle.laws.proofs.Groups.{within, over, turned, group_of, item_of}
use Rattle.laws.proofs.Picks.{pick_same}
use Rattle.laws.proofs.Lists.{set-table}
use Rattle.packets.proofs.Latest.{latest-first, latest-back}

-- what a loop over bytes would carry: the bytes of the unfinished word, samples of the unfinished row, and the channel that is next
pub record Run : Type 0 where
  pub fill : ℕ
  pub place : ℕ
  pub channel : ℕ
  pub tail : List ℕ
  pub sums : List ℕ

-- after the first k bytes of s
unfoldable pub run_at : Plan → List ℕ → ℕ → Run
run_at p s k = record {
  fill = k % p.width;
  place = k / p.width % per_row p;
  channel = k / p.width % per_row p % p.channels;
  tail = tail_of p s k;
  sums = sums_of p s k;
}

-- a byte is put into the unfinished word
abbrev pub held : Run → ℕ → Run
held r b = record { fill = r.fill + 1; place = r.place; channel = r.channel; tail = set r.tail r.fill b; sums = r.sums }

-- the sample of a word that is all there
abbrev pub finished : Run → ℕ → Bool → ℕ
finished r width le = plus width (word_at r.tail 0 width le) (get_or r.sums r.channel 0)

-- past that sample
abbrev pub advanced : Run → ℕ → ℕ → ℕ → Bool → Run
advanced r v channels per_row_lem predict =
    pick (eqb (r.place + 1) per_row_lem)
    (record { fill = 0; place = 0; channel = 0; tail = no_tail; sums = no_sums })
    (record { fill = 0; place = r.place + 1; channel = pick (eqb (r.channel + 1) channels) 0 (r.channel + 1); tail = no_tail; sums = pick predict (set r.sums r.channel v) r.sums })

-- what a start has shown of a plan
pub record Sane (p : Plan) : Type 0 where
  pub good : Good 0 (geometry p)
  pub narrow : p.width ≤ 8
  pub few : p.channels ≤ 64

module _ (p : Plan) (sane : Sane p) where
  abbrev W : ℕ
  W = p.width

  abbrev C : ℕ
  C = p.channels

  abbrev P : ℕ
  P = per_row p

  wide : 0 < W
  wide = sane.good.wide

  pub row-some : 0 < P
  row-some = (le-div_iff_mul-le {k = W} {x = 1} {y = p.row_bytes} wide).1 (omega (arith, one-mul W, width_fits 0 (geometry p) sane.good))

  -- no word, no sample of this row
  pub tail_none : (s : List ℕ) (k : ℕ) → k % W ≡ 0 → tail_of p s k ≡ no_tail
  unfolding tail_of tail_at no_tail
  tail_none s k e = table_same 8 (tail_at p s k) (λ j. 0) (λ j h. rw (e, le-ltb j 0 (omega arith)))

  pub sums_none : (s : List ℕ) (k : ℕ) → k / W % P ≡ 0 → sums_of p s k ≡ no_sums
  unfolding sums_of sum_at no_sums
  sums_none s k e = table_same 64 (sum_at p s k) (λ j. 0) (λ j h. rw e (pick_same p.predict 0))

  module _ (s : List ℕ) (k : ℕ) where
    -- the byte that comes stands after those of its word
    here : k / W * W + k % W ≡ k
    here = div-add-mod' k W

    -- the unfinished word with the byte
    filled_tail : ℕ → ℕ
    filled_tail j = pick (ltb j (k % W + 1)) (get_or s (k / W * W + j) 0) 0

    tail_held : set (tail_of p s k) (k % W) (get_or s k 0) ≡ table 8 filled_tail
    unfolding tail_of tail_at filled_tail
    tail_held =
        set-table 8 _ _ (k % W) (get_or s k 0) (omega (arith, mod-lt k wide, sane.narrow))
        (rw (lt-ltb (k % W) (k % W + 1) (omega arith)) (ap (λ (i : ℕ). get_or s i 0) here))
        (λ j h other. by j other (dec_lt j (k % W)))
      where
        by : (j : ℕ) → (k % W ≡ j → ⊥) → Dec (j < k % W) → pick (ltb j (k % W + 1)) (get_or s (k / W * W + j) 0) 0 ≡ pick (ltb j (k % W)) (get_or s (k / W * W + j) 0) 0
        by j other (yes l) = rw (lt-ltb j (k % W) l, lt-ltb j (k % W + 1) (omega arith))
        by j other (no m) = rw (le-ltb j (k % W) (omega arith), le-ltb j (k % W + 1) (omega arith))

    tail_next : k % W + 1 < W → tail_of p s (k + 1) ≡ table 8 filled_tail
    unfolding tail_of tail_at filled_tail
    tail_next h = let next = within k W h in rw (next.0, next.1)

    sums_next : k % W + 1 < W → sums_of p s (k + 1) ≡ sums_of p s k
    unfolding sums_of sum_at
    sums_next h = let next = within k W h in rw next.0

    -- a byte that finishes no word
    pub still : k % W + 1 < W → run_at p s (k + 1) ≡ held (run_at p s k) (get_or s k 0)
    unfolding run_at
    still h =
        let next = within k W h in
        rw (next.0, next.1, tail_next h, ← tail_held, sums_next h)

    -- one that finishes word n, which is number m of its row
    module _ (last : k % W + 1 ≡ W) where
      whole_word : word_at (set (tail_of p s k) (k % W) (get_or s k 0)) 0 W p.le ≡ word_of W p.le s (k / W)
      unfolding filled_tail
      whole_word =
          word_same (set (tail_of p s k) (k % W) (get_or s k 0)) s 0 (k / W * W) W p.le (λ q h.
          let there : get_or (table 8 filled_tail) q 0 ≡ filled_tail q = table_at 8 filled_tail q (omega (arith, sane.narrow)) in
          let full : filled_tail q ≡ get_or s (k / W * W + q) 0 = rw (lt-ltb q (k % W + 1) (omega arith)) in
          rw (tail_held, zero-add q) (there ∙ full))

      -- the sum so far of its channel
      sum-here : ℕ
      sum-here = sum_at p s k (k / W % P % C)

      sum-read : get_or (sums_of p s k) (k / W % P % C) 0 ≡ sum-here
      unfolding sums_of sum-here
      sum-read = table_at 64 (sum_at p s k) (k / W % P % C) (omega (arith, mod-lt (k / W % P) sane.good.channel, sane.few))

      samples : ℕ → ℕ
      samples i = sample_of p s (k / W / P * P + i)

      row_here : k / W / P * P + k / W % P ≡ k / W
      row_here = div-add-mod' (k / W) P

      sum-alone : alone (geometry p) p.predict (k / W) ≡ true → sum-here ≡ 0
      unfolding sum-here sum_at
      sum-alone e = by p.predict e
        where
          by : (b : Bool) → (not b || ltb (k / W % P) C) ≡ true → pick b (latest C (λ i. sample_of p s (k / W / P * P + i)) (k / W % P) (k / W % P % C)) 0 ≡ 0
          by true t = latest-first C _ (k / W % P) (ltb-true (k / W % P) C t)
          by false t = refl

      sum-later : alone (geometry p) p.predict (k / W) ≡ false → sum-here ≡ sample_of p s (k / W - C)
      unfolding sum-here sum_at
      sum-later e = by p.predict e
        where
          by : (b : Bool) → (not b || ltb (k / W % P) C) ≡ false → pick b (latest C (λ i. sample_of p s (k / W / P * P + i)) (k / W % P) (k / W % P % C)) 0 ≡ sample_of p s (k / W - C)
          by true t =
              let deep : C ≤ k / W % P = ltb-false (k / W % P) C t in
              let back : k / W / P * P + (k / W % P - C) ≡ k / W - C = omega (arith, row_here) in
              latest-back C _ (k / W % P) sane.good.channel deep ∙ ap (sample_of p s) back
          by false t = absurd (let z : ◌≡◌ {A = ℕ} 0 1 = cc in omega arith)

      sample-here : sample_of p s (k / W) ≡ plus W (word_of W p.le s (k / W)) sum-here
      sample-here = by (alone (geometry p) p.predict (k / W)) refl
        where
          by : (b : Bool) → alone (geometry p) p.predict (k / W) ≡ b → sample_of p s (k / W) ≡ plus W (word_of W p.le s (k / W)) sum-here
          by true e = sample-alone (geometry p) p.predict p.le s (k / W) e ∙ sym (rw (sum-alone e, add-zero))
          by false e = sample-later (geometry p) p.predict p.le s (k / W) sane.good.channel e ∙ rw (sum-later e)

      -- the sample is what the word and the sum give
      pub ready : finished (held (run_at p s k) (get_or s k 0)) W p.le ≡ sample_of p s (k / W)
      unfolding run_at
      ready = rw (whole_word, sum-read) (sym sample-here)

      sums_on : k / W % P + 1 < P → pick p.predict (set (sums_of p s k) (k / W % P % C) (sample_of p s (k / W))) (sums_of p s k) ≡ sums_of p s (k + 1)
      unfolding sums_of sum_at
      sums_on h = by p.predict
        where
          -- the sums after a word more of the row
          shift : (b : Bool) (j : ℕ) → ℕ
          shift b j = pick b (latest C (λ i. sample_of p s (k / W / P * P + i)) (k / W % P) j) 0

          later : (b : Bool) (j : ℕ) → ℕ
          later b j = pick b (latest C (λ i. sample_of p s (k / W / P * P + i)) (k / W % P + 1) j) 0

          moved : (b : Bool) → table 64 (λ j. pick b (latest C (λ i. sample_of p s ((k + 1) / W / P * P + i)) ((k + 1) / W % P) j) 0) ≡ table 64 (later b)
          moved b = rw ((over k W wide last).0, (within (k / W) P h).0, (within (k / W) P h).1)

          set_here : set (table 64 (shift true)) (k / W % P % C) (sample_of p s (k / W)) ≡ table 64 (later true)
          set_here =
              set-table 64 (shift true) (later true) (k / W % P % C) (sample_of p s (k / W)) (omega (arith, mod-lt (k / W % P) sane.good.channel, sane.few))
              (rw (add-one, eq-eqb (k / W % P % C) (k / W % P % C) refl) (ap (sample_of p s) row_here))
              (λ j l other. rw (add-one, ne_eqb (k / W % P % C) j other))

          by : (b : Bool) → pick b (set (table 64 (shift b)) (k / W % P % C) (sample_of p s (k / W))) (table 64 (shift b)) ≡ table 64 (λ j. pick b (latest C (λ i. sample_of p s ((k + 1) / W / P * P + i)) ((k + 1) / W % P) j) 0)
          by true = set_here ∙ sym (moved true)
          by false = refl

      -- and past it the run goes on
      pub went : advanced (held (run_at p s k) (get_or s k 0)) (sample_of p s (k / W)) C P p.predict ≡ run_at p s (k + 1)
      unfolding run_at
      went = by (dec_lt (k / W % P + 1) P)
        where
          by : Dec (k / W % P + 1 < P) → advanced (held (run_at p s k) (get_or s k 0)) (sample_of p s (k / W)) C P p.predict ≡ run_at p s (k + 1)
          by (yes l) =
              rw (ne_eqb (k / W % P + 1) P (λ e. omega arith), sums_on l, ← turned (k / W % P) C sane.good.channel, tail_none s (k + 1) (over k W wide last).1, (over k W wide last).0, (over k W wide last).1, (within (k / W) P l).1)
          by (no m) =
              let end : k / W % P + 1 ≡ P = omega (arith, mod-lt (k / W) row-some) in
              let new : (k + 1) / W % P ≡ 0 = rw (over k W wide last).0 (over (k / W) P row-some end).1 in
              rw (eq-eqb (k / W % P + 1) P end, tail_none s (k + 1) (over k W wide last).1, sums_none s (k + 1) new, (over k W wide last).1, new, zero-mod C)

  -- the sums change from word to word
  pub same-words : (s : List ℕ) (j k : ℕ) → j / W ≡ k / W → sums_of p s j ≡ sums_of p s k
  unfolding sums_of sum_at
  same-words s j k e = rw e

  -- word n: its sample, and the sums past it within its row
  module _ (s : List ℕ) (n : ℕ) where
    last_byte : ℕ
    last_byte = n * W + (W - 1)

    is_word : last_byte / W ≡ n
    unfolding last_byte
    is_word = group_of n W (omega (arith, wide))

    is_last : last_byte % W + 1 ≡ W
    unfolding last_byte
    is_last = omega (arith, wide, item_of n W {b = W - 1} (omega (arith, wide)))

    next_word : last_byte + 1 ≡ (n + 1) * W
    unfolding last_byte
    next_word = omega (arith, wide, add-mul n 1 W, one-mul W)

    same : sums_of p s last_byte ≡ sums_of p s (n * W)
    same = same-words s last_byte (n * W) (is_word ∙ sym (mul-div_cancel n wide))

    pub word-sample : sample_of p s n ≡ plus W (word_of W p.le s n) (get_or (sums_of p s (n * W)) (n % P % C) 0)
    word-sample =
        let here : sample_of p s (last_byte / W) ≡ plus W (word_of W p.le s (last_byte / W)) (get_or (sums_of p s last_byte) (last_byte / W % P % C) 0) =
        sample-here s last_byte is_last ∙ ap (plus W (word_of W p.le s (last_byte / W))) (sym (sum-read s last_byte is_last)) in
        rw (is_word, same) at here

    pub word-sums : p.predict ≡ true → n % P + 1 < P → set (sums_of p s (n * W)) (n % P % C) (sample_of p s n) ≡ sums_of p s ((n + 1) * W)
    word-sums on h =
        let more : last_byte / W % P + 1 < P = rw is_word h in
        let next : set (sums_of p s last_byte) (last_byte / W % P % C) (sample_of p s (last_byte / W)) ≡ sums_of p s (last_byte + 1) =
        ap (λ (b : Bool). pick b (set (sums_of p s last_byte) (last_byte / W % P % C) (sample_of p s (last_byte / W))) (sums_of p s last_byte)) (sym on) ∙ sums_on s last_byte is_last more in
        rw (is_word, same, next_word) at next
