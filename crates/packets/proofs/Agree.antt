-- What a strip's first k bytes lead to depends on those bytes alone. Assumes nothing.
use mathlib.Core.Path.{◌≡◌, refl, sym, ap, ◌∙◌}
use mathlib.Core.Bool.{Bool, true, false}
use mathlib.Core.List.{List}
use Prim.Native.Nat.{ℕ, zero, suc, ◌+◌, ◌-◌, ◌*◌, ◌/◌, ◌%◌, ◌≤◌, ◌<◌}
use native.Mathlib.Nat.{div-add-mod', mul-le-mul_right, suc-mul}
use native.Mathlib.Decide.{dec_lt}
use native.Mathlib.Omega.{arith}
use borrow.Author.Tests.{le-ltb}
use lib.Dec.{ltb}
use lib.ListN.{get_or}
use Rattle.answer.specs.Outcome.{pick}
use Rattle.answer.proofs.Filling.{table_same}
use Rattle.words.specs.Word.{modulus}
use Rattle.words.proofs.Words.{word_same}
use Rattle.samples.specs.Sample.{alone, word_of}
use Rattle.samples.proofs.Sums.{not_alone, sample-alone, sample-later}
use Rattle.packets.specs.declared.Plan.{Plan}
use Rattle.packets.specs.State.{geometry, per_row, sample_of, latest, tail_at, sum_at, tail_of, sums_of}
use Rattle.packets.proofs.Bytewise.{run_at}
use Rattle.packets.proofs.Bytewise.{Sane}

pub latest-same : (channels : ℕ) (v w : ℕ → ℕ) (m j : ℕ) → ((i : ℕ) → i < m → v i ≡ w i) → latest channels v m j ≡ latest channels w m j
latest-same channels v w zero j e = refl
latest-same channels v w (suc m) j e = rw (e m (omega arith), latest-same channels v w m j (λ i h. e i (omega arith)))

-- a word that is whole among k bytes
pub word_in : (W k n : ℕ) → n < k / W → n * W + W ≤ k
word_in W k n h = omega (arith, suc-mul n W, mul-le-mul_right {m = suc n} {n = k / W} W h, div-add-mod' k W)

module _ (p : Plan) (sane : Sane p) (s t : List ℕ) (k : ℕ) (same : (i : ℕ) → i < k → get_or s i 0 ≡ get_or t i 0) where
  abbrev W : ℕ
  W = p.width

  word_agrees : (n : ℕ) → n * W + W ≤ k → word_of W p.le s n ≡ word_of W p.le t n
  word_agrees n h = word_same s t (n * W) (n * W) W p.le (λ q l. same (n * W + q) (omega arith))

  upto : (more n : ℕ) → n < more → n * W + W ≤ k → sample_of p s n ≡ sample_of p t n
  upto zero n l h = absurd (omega arith)
  upto (suc more) n l h = by (alone (geometry p) p.predict n) refl (upto more (n - p.channels))
    where
      by : (b : Bool) → alone (geometry p) p.predict n ≡ b → (n - p.channels < more → (n - p.channels) * W + W ≤ k → sample_of p s (n - p.channels) ≡ sample_of p t (n - p.channels)) → sample_of p s n ≡ sample_of p t n
      by true e back =
          sample-alone (geometry p) p.predict p.le s n e ∙ ap (λ (x : ℕ). x % modulus W) (word_agrees n h) ∙ sym (sample-alone (geometry p) p.predict p.le t n e)
      by false e back =
          let less : n - p.channels ≤ n = omega arith in
          let before = back (omega (arith, not_alone (geometry p) p.predict n e, sane.good.channel)) (omega (arith, mul-le-mul_right W less)) in
          sample-later (geometry p) p.predict p.le s n sane.good.channel e
          ∙ rw (word_agrees n h, before) (sym (sample-later (geometry p) p.predict p.le t n sane.good.channel e))

  pub sample_agrees : (n : ℕ) → n < k / W → sample_of p s n ≡ sample_of p t n
  sample_agrees n h = upto (suc n) n (omega arith) (word_in W k n h)

  tail_at_lem : (j : ℕ) → tail_at p s k j ≡ tail_at p t k j
  unfolding tail_at
  tail_at_lem j = by (dec_lt j (k % W))
    where
      by : Dec (j < k % W) → pick (ltb j (k % W)) (get_or s (k / W * W + j) 0) 0 ≡ pick (ltb j (k % W)) (get_or t (k / W * W + j) 0) 0
      by (yes l) = rw (same (k / W * W + j) (omega (arith, div-add-mod' k W)))
      by (no m) = rw (le-ltb j (k % W) (omega arith))

  sum_at_lem : (j : ℕ) → sum_at p s k j ≡ sum_at p t k j
  unfolding sum_at
  sum_at_lem j =
      ap (λ (x : ℕ). pick p.predict x 0)
      (latest-same p.channels _ _ (k / W % per_row p) j (λ i h. sample_agrees (k / W / per_row p * per_row p + i) (omega (arith, div-add-mod' (k / W) (per_row p)))))

  pub tail_agrees : tail_of p s k ≡ tail_of p t k
  unfolding tail_of
  tail_agrees = table_same 8 (tail_at p s k) (tail_at p t k) (λ j h. tail_at_lem j)

  pub sums_agree : sums_of p s k ≡ sums_of p t k
  unfolding sums_of
  sums_agree = table_same 64 (sum_at p s k) (sum_at p t k) (λ j h. sum_at_lem j)

  pub run_agrees : run_at p s k ≡ run_at p t k
  unfolding run_at
  run_agrees = rw (tail_agrees, sums_agree)
