-- A state that passes the check is where the strip behind it leads. Assumes nothing.
use mathlib.Core.Path.{◌≡◌, refl, sym, ap, ◌∙◌}
use mathlib.Core.Bool.{Bool, true, false, not}
use Prim.Native.Nat.{ℕ, zero, suc, ◌+◌, ◌-◌, ◌*◌, ◌/◌, ◌%◌, ◌≤◌, ◌<◌}
use native.Mathlib.Nat.{div-add-mod', mul-le-mul_right, suc-mul, mod-lt, mod-eq_of_lt, zero-add, add-mod_right, mod-le}
use native.Mathlib.Decide.{dec_lt, ℕ_discrete}
use native.Mathlib.Omega.{arith}
use borrow.Author.Tests.{lt-ltb, le-ltb, eqb-true, ltb-true, ltb-false, not-true, not-false, eq-eqb, ne_eqb}
use Rattle.laws.proofs.Groups.{item_of, group_in_row}
use lib.Dec.{ltb, eqb}
use lib.ListN.{length, get_or}
use Rattle.answer.specs.Outcome.{pick, Sound}
use Rattle.answer.proofs.Filling.{length-table, table_at, table_same, table_self}
use Rattle.words.specs.Word.{modulus}
use Rattle.words.specs.Promises.{served}
use Rattle.words.proofs.Words.{digits_word, modulus_pos}
use Rattle.words.proofs.Served.{served-some}
use Rattle.samples.specs.Sample.{alone, word_of}
use Rattle.samples.specs.Promises.{strip_faults}
use Rattle.samples.proofs.Sums.{in_row, sample-alone, sample-later}
use Rattle.samples.proofs.Stored.{stored_byte}
use Rattle.samples.proofs.Strips.{good_checked, per_row_lem}
use Rattle.answer.proofs.Promised.{sound-here, sound_rest}
use Rattle.packets.specs.declared.Packets.{Packets}
use Rattle.packets.specs.declared.Plan.{Plan}
use Rattle.packets.specs.State.{geometry, sample_of, latest, tail_at, sum_at, tail_of, sums_of, state_at, most, clear, live, tail_right, sum_right, tails_right, sums_right, consistent, behind}
use Rattle.laws.proofs.Says.{both, up}
use Rattle.laws.proofs.Turns.{every_one}
use Rattle.laws.proofs.Lists.{past_end}
use Rattle.packets.proofs.Checking.{clear-sound}
use Rattle.packets.proofs.Latest.{latest-none}
use Rattle.packets.proofs.Bytewise.{Sane, row-some}

-- the numbers that its type gives a state
pub record Shaped (st : Packets) : Type 0 where
  pub tails : length st.tail ≡ 8
  pub sums : length st.sums ≡ 64

-- the check, taken apart
pub record Passed (st : Packets) : Type 0 where
  pub sound : Sound (strip_faults 0 (geometry st.plan))
  pub short : st.received ≤ most
  pub tail : tails_right st.tail (st.received % st.plan.width) ≡ true
  pub sums : sums_right st.sums st.plan.width (live st) ≡ true

pub passed : (st : Packets) → consistent st ≡ true → Passed st
unfolding consistent
passed st e =
    let first = (both (up (clear (strip_faults 0 (geometry st.plan)))) (up _)).tells e in
    let second = (both (up (not (ltb most st.received))) (up _)).tells first.1 in
    let third = (both (up (tails_right st.tail (st.received % st.plan.width))) (up _)).tells second.1 in
    record {
      sound = clear-sound (strip_faults 0 (geometry st.plan)) first.0;
      short = ltb-false most st.received (not-true (ltb most st.received) second.0);
      tail = third.0;
      sums = third.1;
    }

pub sane_sound : (p : Plan) → Sound (strip_faults 0 (geometry p)) → Sane p
sane_sound p s = record {
  good = good_checked 0 (geometry p) s;
  narrow = (served-some p.width (not-false (served p.width) (sound-here s))).1;
  few = ltb-false 64 p.channels (sound-here (sound_rest (sound_rest s)));
}

-- which word of its row comes after k bytes
pub row-place : (p : Plan) → Sane p → (k : ℕ) → k % p.row_bytes / p.width ≡ k / p.width % (p.row_bytes / p.width)
row-place p sane k =
    let per = p.row_bytes / p.width in
    let whole : p.row_bytes ≡ per * p.width = sym (per_row_lem 0 (geometry p) sane.good) in
    ap (λ (n : ℕ). k % n / p.width) whole ∙ group_in_row k per p.width (row-some p sane) sane.good.wide

-- samples that depend on the channel alone
latest_even : (channels : ℕ) (v u : ℕ → ℕ) (m j : ℕ) → ((i : ℕ) → i < m → v i ≡ u (i % channels)) → j < m → j < channels → latest channels v m j ≡ u j
latest_even channels v u zero j e h l = absurd (omega arith)
latest_even channels v u (suc m) j e h l = by (ℕ_discrete (m % channels) j) (λ d. latest_even channels v u m j (λ i b. e i (omega arith)) d l)
  where
    by : Dec (m % channels ≡ j) → (j < m → latest channels v m j ≡ u j) → pick (eqb (m % channels) j) (v m) (latest channels v m j) ≡ u j
    by (yes same) before = rw (eq-eqb (m % channels) j same) (e m (omega arith) ∙ ap u same)
    by (no other) before =
        let less : j < m = by_less (ℕ_discrete j m) in rw (ne_eqb (m % channels) j other) (before less)
      where
        by_less : Dec (j ≡ m) → j < m
        by_less (yes all) = absurd (other (ap (λ (x : ℕ). x % channels) (sym all) ∙ mod-eq_of_lt l))
        by_less (no some) = omega arith

module _ (st : Packets) (ok : Passed st) (shaped : Shaped st) where
  abbrev p : Plan
  p = st.plan

  abbrev W : ℕ
  W = st.plan.width

  abbrev C : ℕ
  C = st.plan.channels

  abbrev P : ℕ
  P = st.plan.row_bytes / st.plan.width

  abbrev k : ℕ
  k = st.received

  pub sane : Sane p
  sane = sane_sound p ok.sound

  -- where there is no sum, it is 0; and every sum is below the modulus
  sum_test : (j : ℕ) → j < 64 → sum_right st.sums W (live st) j ≡ true
  unfolding sums_right
  sum_test j h = every_one 64 (sum_right st.sums W (live st)) ok.sums j h

  sum_zero : (j : ℕ) → live st ≤ j → get_or st.sums j 0 ≡ 0
  sum_zero j h = by (dec_lt j 64)
    where
      by : Dec (j < 64) → get_or st.sums j 0 ≡ 0
      by (yes l) = eqb-true (get_or st.sums j 0) 0 (rw (le-ltb j (live st) h) at (sum_test j l))
      by (no m) = past_end st.sums j (omega (arith, shaped.sums))

  sum_below : (j : ℕ) → get_or st.sums j 0 < modulus W
  sum_below j = by (dec_lt j (live st)) (dec_lt j 64)
    where
      by : Dec (j < live st) → Dec (j < 64) → get_or st.sums j 0 < modulus W
      by (no m) d = rw (sum_zero j (omega arith)) (modulus_pos W)
      by (yes l) (no m) = rw (past_end st.sums j (omega (arith, shaped.sums))) (modulus_pos W)
      by (yes l) (yes h) = ltb-true (get_or st.sums j 0) (modulus W) (rw (lt-ltb j (live st) l) at (sum_test j h))

  abbrev words : ℕ → ℕ
  words n = get_or st.sums (n % P) 0

  pub behind-length : length (behind st) ≡ k
  unfolding behind
  behind-length = length-table k _

  -- its whole words
  behind-word : (n : ℕ) → n < k / W → word_of W st.plan.le (behind st) n ≡ words n
  unfolding behind
  behind-word n h =
      digits_word (behind st) (n * W) W st.plan.le (words n) (λ q l.
      let fits : n * W + q < k / W * W = omega (arith, suc-mul n W, mul-le-mul_right {m = suc n} {n = k / W} W h) in
      table_at k _ (n * W + q) (omega (arith, div-add-mod' k W))
      ∙ rw (lt-ltb (n * W + q) (k / W * W) fits) (stored_byte W st.plan.le words n q l))
      ∙ mod-eq_of_lt (sum_below (n % P))

  -- with prediction each sample is its channel's sum
  few-live : st.plan.predict ≡ true → (j : ℕ) → C ≤ j → get_or st.sums j 0 ≡ 0
  few-live e j h = sum_zero j (rw e (by (dec_lt (k / W % P) C)))
    where
      by : Dec (k / W % P < C) → pick (ltb (k / W % P) C) (k / W % P) C ≤ j
      by (yes l) = rw (lt-ltb (k / W % P) C l) (omega arith)
      by (no m) = rw (le-ltb (k / W % P) C (omega arith)) h

  even : st.plan.predict ≡ true → (more n : ℕ) → n < more → n < k / W → sample_of p (behind st) n ≡ get_or st.sums (n % P % C) 0
  even on zero n l h = absurd (omega arith)
  even on (suc more) n l h = by (alone (geometry p) p.predict n) refl (even on more (n - C))
    where
      by : (b : Bool) → alone (geometry p) p.predict n ≡ b → (n - C < more → n - C < k / W → sample_of p (behind st) (n - C) ≡ get_or st.sums ((n - C) % P % C) 0) → sample_of p (behind st) n ≡ get_or st.sums (n % P % C) 0
      by true e back =
          let first : n % P < C = ltb-true (n % P) C (rw on at e) in
          sample-alone (geometry p) p.predict p.le (behind st) n e
          ∙ ap (λ (x : ℕ). x % modulus W) (behind-word n h)
          ∙ mod-eq_of_lt (sum_below (n % P))
          ∙ ap (λ (j : ℕ). get_or st.sums j 0) (sym (mod-eq_of_lt first))
      by false e back =
          let deep : C ≤ n % P = in_row (geometry p) p.predict n e in
          let some : 0 < C = sane.good.channel in
          let before = back (omega (arith, mod-le n P)) (omega arith) in
          let split : n - C ≡ n / P * P + (n % P - C) = omega (arith, div-add-mod' n P) in
          let less : n % P - C < P = omega (arith, mod-lt n (row-some p sane)) in
          let place : (n - C) % P ≡ n % P - C = ap (λ (x : ℕ). x % P) split ∙ item_of (n / P) _ less in
          let on_again : n % P - C + C ≡ n % P = omega arith in
          let channel : (n - C) % P % C ≡ n % P % C = ap (λ (x : ℕ). x % C) place ∙ sym (add-mod_right (n % P - C) C) ∙ ap (λ (x : ℕ). x % C) on_again in
          sample-later (geometry p) p.predict p.le (behind st) n some e
          ∙ rw (behind-word n h, few-live on (n % P) deep, before, channel, zero-add (get_or st.sums (n % P % C) 0)) (mod-eq_of_lt (sum_below (n % P % C)))

  row-sample : st.plan.predict ≡ true → (i : ℕ) → i < k / W % P → sample_of p (behind st) (k / W / P * P + i) ≡ get_or st.sums (i % C) 0
  row-sample on i h =
      let split = div-add-mod' (k / W) P in
      let n = k / W / P * P + i in
      let place : n % P ≡ i = item_of (k / W / P) _ (omega (arith, mod-lt (k / W) (row-some p sane))) in
      even on (suc n) n (omega arith) (omega arith) ∙ ap (λ (x : ℕ). get_or st.sums (x % C) 0) place

  sum_back : (j : ℕ) → sum_at p (behind st) k j ≡ get_or st.sums j 0
  unfolding sum_at
  sum_back j = by st.plan.predict refl
    where
      by : (b : Bool) → st.plan.predict ≡ b → pick b (latest C (λ i. sample_of p (behind st) (k / W / P * P + i)) (k / W % P) j) 0 ≡ get_or st.sums j 0
      by false off = sym (sum_zero j (rw off (omega arith)))
      by true on = both_ways (dec_lt j (k / W % P)) (dec_lt j C)
        where
          both_ways : Dec (j < k / W % P) → Dec (j < C) → latest C (λ i. sample_of p (behind st) (k / W / P * P + i)) (k / W % P) j ≡ get_or st.sums j 0
          both_ways (yes a) (yes b) = latest_even C _ (λ i. get_or st.sums i 0) (k / W % P) j (row-sample on) a b
          both_ways (no a) d =
              latest-none C _ j (k / W % P) (λ i h e. omega (arith, mod-le i C)) ∙ sym (sum_zero j (rw on (least (dec_lt (k / W % P) C))))
            where
              least : Dec (k / W % P < C) → pick (ltb (k / W % P) C) (k / W % P) C ≤ j
              least (yes l) = rw (lt-ltb (k / W % P) C l) (omega arith)
              least (no m) = rw (le-ltb (k / W % P) C (omega arith)) (omega arith)
          both_ways (yes a) (no b) = latest-none C _ j (k / W % P) (λ i h e. omega (arith, mod-lt i sane.good.channel)) ∙ sym (few-live on j (omega arith))

  tail_back : (j : ℕ) → j < 8 → tail_at p (behind st) k j ≡ get_or st.tail j 0
  unfolding tail_at behind tails_right
  tail_back j h = by (dec_lt j (k % W))
    where
      by : Dec (j < k % W) → pick (ltb j (k % W)) (get_or (behind st) (k / W * W + j) 0) 0 ≡ get_or st.tail j 0
      by (yes l) =
          let wide : j < W = omega (arith, mod-lt k sane.good.wide) in
          let there : get_or (behind st) (k / W * W + j) 0 ≡ get_or st.tail ((k / W * W + j) % W) 0 =
          table_at k _ (k / W * W + j) (omega (arith, div-add-mod' k W)) ∙ rw (le-ltb (k / W * W + j) (k / W * W) (omega arith)) in
          rw (lt-ltb j (k % W) l) (there ∙ ap (λ (x : ℕ). get_or st.tail x 0) (item_of (k / W) _ wide))
      by (no m) =
          let test : tail_right st.tail (k % W) j ≡ true = every_one 8 (tail_right st.tail (k % W)) ok.tail j h in
          rw (le-ltb j (k % W) (omega arith)) (sym (eqb-true (get_or st.tail j 0) 0 (rw (le-ltb j (k % W) (omega arith)) at test)))

  pub tail_behind : tail_of p (behind st) k ≡ st.tail
  unfolding tail_of
  tail_behind =
      table_same 8 (tail_at p (behind st) k) (λ j. get_or st.tail j 0) tail_back
      ∙ (rw shaped.tails at (table_self st.tail))

  pub sums-behind : sums_of p (behind st) k ≡ st.sums
  unfolding sums_of
  sums-behind =
      table_same 64 (sum_at p (behind st) k) (λ j. get_or st.sums j 0) (λ j h. sum_back j)
      ∙ (rw shaped.sums at (table_self st.sums))

  pub behind_leads : state_at p (behind st) k ≡ st
  unfolding state_at
  behind_leads = rw (tail_behind, sums-behind)
