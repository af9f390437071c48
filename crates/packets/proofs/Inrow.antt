-- Words of one row, with prediction: their samples are those of a row that is taken up at this channel, from these sums. Assumes nothing.
use Prim.{Unit}
use mathlib.Core.Path.{◌≡◌, sym, ap, ◌∙◌}
use mathlib.Core.Bool.{not}
use mathlib.Core.List.{List}
use Prim.Native.Nat.{ℕ, zero, suc, ◌+◌, ◌*◌, ◌/◌, ◌%◌, ◌≤◌, ◌<◌}
use native.Mathlib.Nat.{div-add-mod', add-mul, add-zero, mod-add-mod, mod-lt, mod_self, le_of_mul-le-mul_right, lt_of_mul-lt-mul_right}
use native.Mathlib.Omega.{arith}
use borrow.Author.Tests.{eq-eqb, lt-ltb, le-ltb}
use lib.ListN.{length, set}
use Rattle.answer.specs.Outcome.{Outcome, instead, Sound, none, next, Done}
use Rattle.answer.specs.Table.{table, filled}
use Rattle.answer.proofs.Promised.{finished, sound-done}
use Rattle.laws.proofs.Groups.{item_of, rest_of_rest}
use Rattle.samples.specs.Sample.{word_of}
use Rattle.samples.proofs.Strips.{per_row_lem}
use Rattle.rows.specs.Resume.{sums_after, sample_after, resumed_at, resume_faults, RowResumed}
use Rattle.rows.proofs.Running.{after-long}
use Rattle.packets.specs.declared.Plan.{Plan}
use Rattle.packets.specs.State.{geometry, per_row, sample_of, sums_of}
use Rattle.packets.specs.Promises.{no_sums}
use Rattle.packets.specs.Steps.{WordsFeed, RowWords, WordsFed, Cleared}
use Rattle.packets.proofs.Bytewise.{Sane, sums_none, word-sample, word-sums}
use Rattle.packets.proofs.Behind.{row-place}
use Rattle.packets.proofs.Wordwise.{ok, is, s, width_served, a-words, words-room, word-here, sums-here, words-fed, row_starts}

module _ {p : Plan} {k from : ℕ} {a sums old : List ℕ} (row : RowWords p k from a sums old) where
  abbrev W : ℕ
  W = p.width

  abbrev C : ℕ
  C = p.channels

  abbrev P : ℕ
  P = per_row p

  abbrev n : ℕ
  n = k / W

  feed : WordsFeed p k a sums old
  feed = row.predicted.feed

  sane : Sane p
  sane = is feed

  pub first_word : k % p.row_bytes / W ≡ n % P
  first_word = row-place p sane k

  -- the piece's words are among the row's
  row_is : P * W ≡ p.row_bytes
  row_is = per_row_lem 0 (geometry p) sane.good

  place-words : n % P * W ≡ k % p.row_bytes
  place-words =
      let whole : k % p.row_bytes % W ≡ 0 = (rw row_is at (rest_of_rest k P W)) ∙ feed.begins in
      omega (arith, div-add-mod' (k % p.row_bytes) W, whole, ap (λ (x : ℕ). x * W) first_word)

  inside : n % P + length a / W ≤ P
  inside = le_of_mul-le-mul_right {k = W} (omega (arith, add-mul (n % P) (length a / W) W, place-words, a-words feed, row_is, row.inside)) sane.good.wide

  place : (i : ℕ) → n % P + i < P → (n + i) % P ≡ n % P + i
  place i h = let split : n + i ≡ n / P * P + (n % P + i) = omega (arith, div-add-mod' n P) in rw split (item_of (n / P) P h)

  channel : (i : ℕ) → n % P + i < P → (n % P % C + i) % C ≡ (n + i) % P % C
  channel i h = mod-add-mod (n % P) C i ∙ sym (ap (λ (x : ℕ). x % C) (place i h))

  abbrev after : ℕ → List ℕ
  after = sums_after (k % p.row_bytes / W % C) C W (word_of W p.le a) sums

  abbrev sample_of_lem : ℕ → ℕ
  sample_of_lem = sample_after (k % p.row_bytes / W % C) C W (word_of W p.le a) sums

  sample_by : (i : ℕ) → n % P + i < P → after i ≡ sums_of p (s feed) ((n + i) * W) → sample_of_lem i ≡ sample_of p (s feed) (n + i)
  sample_by i h e = rw (e, first_word, channel i h, ← word-here feed i) (sym (word-sample p sane (s feed) (n + i)))

  sums_by : (i : ℕ) → n % P + i < P → after i ≡ sums_of p (s feed) ((n + i) * W)
  sums_by zero h = rw (add-zero n) (sym (sums-here feed))
  sums_by (suc i) h =
      let less : n % P + i < P = omega arith in
      let before = sums_by i less in
      let next : n + suc i ≡ n + i + 1 = omega arith in
      let more : (n + i) % P + 1 < P = rw (place i less) (omega arith) in
      rw next (set_by i less before ∙ word-sums p sane (s feed) (n + i) row.predicted.on more)
    where
      set_by : (i : ℕ) → n % P + i < P → after i ≡ sums_of p (s feed) ((n + i) * W) → after (suc i) ≡ set (sums_of p (s feed) ((n + i) * W)) ((n + i) % P % C) (sample_of p (s feed) (n + i))
      set_by i h e = rw (sample_by i h e, e, first_word, channel i h)

  sample-is : (i : ℕ) → i < length a / W → sample_of p (s feed) (n + i) ≡ sample_of_lem i
  sample-is i h = let less : n % P + i < P = omega (arith, inside) in sym (sample_by i less (sums_by i less))

  -- the sums after them: those of the row, or, past its end, none
  end_place : (n + length a / W) * W ≡ k + length a
  end_place = omega (arith, add-mul n (length a / W) W, a-words feed, div-add-mod' k W, feed.begins)

  within-sums : (k % p.row_bytes + length a ≡ p.row_bytes → ⊥) → after (length a / W) ≡ sums_of p (s feed) (k + length a)
  within-sums unended =
      let less : n % P + length a / W < P = lt_of_mul-lt-mul_right W (omega (arith, add-mul (n % P) (length a / W) W, place-words, a-words feed, row_is, row.inside, unended)) in
      sums_by (length a / W) less ∙ ap (sums_of p (s feed)) end_place

  over_sums : k % p.row_bytes + length a ≡ p.row_bytes → sums_of p (s feed) (k + length a) ≡ no_sums
  over_sums e =
      let r = p.row_bytes in
      let starts : (k + length a) % r ≡ 0 = sym (mod-add-mod k r (length a)) ∙ rw e (mod_self r) in
      sums_none p sane (s feed) (k + length a) (row_starts p (ok feed).sound (k + length a) starts)

  some : 0 < C
  some = sane.good.channel

  sound : Sound (resume_faults a (k % p.row_bytes / W % C) C W sums old)
  sound =
      next (ap not (width_served feed))
      (next (le-ltb 64 C sane.few)
      (next (ap not (lt-ltb (k % p.row_bytes / W % C) C (mod-lt (k % p.row_bytes / W) some)))
      (next (le-ltb (length sums) 64 (omega (arith, feed.feeds.sums)))
      (next (ap not (eq-eqb (length a % W) 0 feed.words))
      (next (le-ltb (length old) (length a) (words-room feed)) none)))))

  module _ (answer : Done) {then new : List ℕ} (r : RowResumed a (k % p.row_bytes / W % C) C W p.le p.out_le sums old answer then new) where
    wrote : new ≡ filled (length a) (resumed_at a (k % p.row_bytes / W % C) C W p.le p.out_le sums) old
    wrote = finished (resume_faults a (k % p.row_bytes / W % C) C W sums old) tt (length a) (resumed_at a (k % p.row_bytes / W % C) C W p.le p.out_le sums) old new sound r.writes

    sums_then : then ≡ after (length a / W)
    sums_then = r.sums ∙ ap (λ (o : Outcome (Unit {0})). instead o (after (length a / W)) sums) (sound-done tt sound)

    pub row-long : length then ≡ length sums
    row-long = ap length sums_then ∙ after-long (k % p.row_bytes / W % C) C W (word_of W p.le a) sums (length a / W)

    pub row_open : (k % p.row_bytes + length a ≡ p.row_bytes → ⊥) → WordsFed p k a sums old then new
    row_open unended = words-fed feed sample_of_lem sample-is wrote (sums_then ∙ within-sums unended)

    pub row_over : {cleared : List ℕ} → k % p.row_bytes + length a ≡ p.row_bytes → Cleared then cleared → WordsFed p k a sums old cleared new
    unfolding no_sums
    row_over e c =
        let long : length then ≡ 64 = row-long ∙ feed.feeds.sums in
        words-fed feed sample_of_lem sample-is wrote (c ∙ ap (λ (m : ℕ). table m (λ j. 0)) long ∙ sym (over_sums e))
