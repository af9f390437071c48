-- Whole words, after a strip of whole words: what is written of them if their samples are v, and the three ways in which they are. Assumes nothing.
use mathlib.Core.Path.{◌≡◌, sym, ap, ◌∙◌}
use mathlib.Core.Bool.{true, false, not}
use mathlib.Core.List.{List, ◌++◌}
use Prim.Native.Nat.{ℕ, ◌+◌, ◌*◌, ◌/◌, ◌%◌, ◌≤◌, ◌<◌}
use native.Mathlib.Nat.{div-add-mod', add-mul, add_comm, add-mul-mod_self_right, add-mul-div_right, add_assoc, div-lt_iff_lt-mul, mod-eq_of_lt, mod-lt, mul-mod_left, zero-div}
use native.Mathlib.Omega.{arith}
use borrow.Author.Tests.{not-false, eq-eqb, le-ltb}
use lib.ListN.{length, get_or, get_or-append}
use lib.Seq.{get_or-append-add}
use Rattle.answer.specs.Outcome.{Sound, none, next, Done}
use Rattle.answer.specs.Table.{filled}
use Rattle.answer.proofs.Filling.{filled-same, table_same}
use Rattle.answer.proofs.Promised.{sound-here, sound_more, finished}
use Rattle.words.specs.Word.{Bytes}
use Rattle.words.specs.Promises.{served}
use Rattle.words.proofs.Words.{word_same, word_below}
use Rattle.samples.specs.Sample.{stored_at, word_of}
use Rattle.samples.specs.Promises.{strip_faults, convert_faults, Converted, reorder_faults, Reordered}
use Rattle.samples.proofs.Sums.{sample-alone}
use Rattle.samples.proofs.Rows.{same_samples}
use Rattle.packets.specs.declared.Plan.{Plan}
use Rattle.packets.specs.declared.Packets.{Packets}
use Rattle.packets.specs.State.{geometry, per_row, sample_of, sum_at, sums_of, state_at, behind}
use Rattle.packets.specs.Promises.{no_tail, no_sums, completes, continued_at, state}
use Rattle.packets.specs.Steps.{WordsFeed, WordsFed}
use Rattle.packets.proofs.Bytewise.{Sane, row-some, tail_none, sums_none}
use Rattle.packets.proofs.Agree.{sums_agree}
use Rattle.packets.proofs.Behind.{Passed, passed, Shaped, sane_sound, row-place, behind-length, sums-behind}
use Rattle.packets.proofs.Pieces.{whole-sound}
use Rattle.packets.proofs.Cut.{completes_end}

module _ {p : Plan} {k : ℕ} {a sums old : List ℕ} (feed : WordsFeed p k a sums old) where
  abbrev pub st : Packets
  st = state p k no_tail sums

  abbrev W : ℕ
  W = p.width

  abbrev pub s : List ℕ
  s = behind (state p k no_tail sums) ++ a

  pub ok : Passed st
  ok = passed st feed.feeds.passes

  shaped : Shaped st
  shaped = record { tails = feed.feeds.tails; sums = feed.feeds.sums }

  pub is : Sane p
  is = sane_sound p ok.sound

  pub width_served : served W ≡ true
  width_served = not-false (served W) (sound-here ok.sound)

  k_words : k / W * W ≡ k
  k_words = omega (arith, div-add-mod' k W, feed.begins)

  pub a-words : length a / W * W ≡ length a
  a-words = omega (arith, div-add-mod' (length a) W, feed.words)

  pub both_words : (k + length a) % W ≡ 0
  both_words = ap (λ (x : ℕ). (k + x) % W) (sym a-words) ∙ add-mul-mod_self_right k (length a / W) W ∙ feed.begins

  words_complete : completes st (length a) ≡ length a
  words_complete = omega (arith, completes_end st is.good.wide (length a), k_words, div-add-mod' (k + length a) W, both_words)

  pub words-room : length a ≤ length old
  words-room = omega (arith, words_complete, feed.feeds.room)

  -- word x of the piece
  pub word-here : (x : ℕ) → word_of W p.le s (k / W + x) ≡ word_of W p.le a x
  word-here x =
      let at : (k / W + x) * W ≡ k + x * W = add-mul (k / W) x W ∙ ap (λ (y : ℕ). y + x * W) k_words in
      rw at (word_same s a (k + x * W) (x * W) W p.le (λ q h.
      ap (λ (y : ℕ). get_or s y 0) (add_assoc k (x * W) q ∙ ap (λ (y : ℕ). y + (x * W + q)) (sym (behind-length st ok shaped)))
      ∙ get_or-append-add (behind st) a (x * W + q) 0))

  -- the sums are where the bytes so far lead
  pub sums-here : sums_of p s (k / W * W) ≡ sums
  sums-here =
      rw k_words
      (sums_agree p is s (behind st) k (λ i h. get_or-append (behind st) a 0 i (rw (behind-length st ok shaped) h))
      ∙ sums-behind st ok shaped)

  module _ (v : ℕ → ℕ) (samples : (q : ℕ) → q < length a / W → sample_of p s (k / W + q) ≡ v q) where
    word_byte : (i : ℕ) → i < length a → stored_at W p.out_le v i ≡ continued_at st a i
    word_byte i h =
        let at : k / W * W + i ≡ i + k / W * W = omega arith in
        let inside : i / W < length a / W = (div-lt_iff_lt-mul {k = W} {x = i} {y = length a / W} is.good.wide).1 (omega (arith, a-words)) in
        rw (at, add-mul-mod_self_right i (k / W) W, add-mul-div_right i (k / W) is.good.wide, add_comm (i / W) (k / W), samples (i / W) inside)

    pub words-fed : {sums' new : List ℕ} → new ≡ filled (length a) (stored_at W p.out_le v) old → sums' ≡ sums_of p s (k + length a) → WordsFed p k a sums old sums' new
    unfolding state_at
    words-fed e then = record {
      state-is = rw (then, tail_none p is s (k + length a) both_words);
      wrote = e ∙ filled-same (length a) (stored_at W p.out_le v) (continued_at st a) old word_byte ∙ ap (λ (n : ℕ). filled n (continued_at st a) old) (sym words_complete);
    }

-- without prediction: their samples are the words
module _ {p : Plan} {k : ℕ} {a sums old : List ℕ} (feed : WordsFeed p k a sums old) (off : p.predict ≡ false) (bytes : Bytes a) where
  plain : (q : ℕ) → sample_of p (s feed) (k / p.width + q) ≡ word_of p.width p.le a q
  plain q =
      sample-alone (geometry p) p.predict p.le (s feed) (k / p.width + q) (rw off)
      ∙ rw (word-here feed q) (mod-eq_of_lt (word_below a (q * p.width) p.width p.le bytes))

  no_sums_lem : (l : List ℕ) (n : ℕ) → sums_of p l n ≡ no_sums
  unfolding sums_of sum_at no_sums
  no_sums_lem l n = table_same 64 (sum_at p l n) (λ j. 0) (λ j h. rw off)

  pub plain-fed : (answer : Done) {new : List ℕ} → Reordered a p.width p.le p.out_le old answer new → WordsFed p k a sums old sums new
  plain-fed answer {new} c =
      words-fed feed (word_of p.width p.le a) (λ q h. plain q)
      (finished (reorder_faults a p.width old) tt (length a) (stored_at p.width p.out_le (word_of p.width p.le a)) old new (next (ap not (width_served feed)) (next (ap not (eq-eqb (length a % p.width) 0 feed.words)) (next (le-ltb (length old) (length a) (words-room feed)) none))) c)
      (sym (sums-here feed) ∙ no_sums_lem (s feed) (k / p.width * p.width) ∙ sym (no_sums_lem (s feed) (k + length a)))

-- whole rows are whole words, and a whole number of rows of them
module _ (p : Plan) (sound : Sound (strip_faults 0 (geometry p))) (n : ℕ) (rows : n % p.row_bytes ≡ 0) where
  pub row_starts : n / p.width % per_row p ≡ 0
  row_starts = sym (row-place p (sane_sound p sound) n) ∙ rw rows (zero-div p.width)

-- whole rows, from a row's start on, with prediction or without: their samples are those of the rows alone
module _ {p : Plan} {k : ℕ} {a sums old : List ℕ} (feed : WordsFeed p k a sums old) (begins : k % p.row_bytes ≡ 0) (rows : length a % p.row_bytes ≡ 0) where
  abbrev P : ℕ
  P = per_row p

  both_rows : (k + length a) % p.row_bytes ≡ 0
  both_rows =
      let r = p.row_bytes in
      let all : length a / r * r ≡ length a = omega (arith, div-add-mod' (length a) r, rows) in
      ap (λ (x : ℕ). (k + x) % r) (sym all) ∙ add-mul-mod_self_right k (length a / r) r ∙ begins

  row_samples : (q : ℕ) → sample_of p (s feed) (k / p.width + q) ≡ sample_of p a q
  row_samples q =
      let r = q / P in
      let m = q % P in
      let split : r * P + m ≡ q = div-add-mod' q P in
      let i = k / p.width + r * P in
      let hi : i % P ≡ 0 = add-mul-mod_self_right (k / p.width) r P ∙ row_starts p (ok feed).sound k begins in
      let there : k / p.width + q ≡ i + m = omega (arith, split) in
      rw there
      (same_samples (geometry p) (is feed).good.channel p.predict p.le (s feed) a i (r * P) hi (mul-mod_left r P)
      (λ x h. ap (word_of p.width p.le (s feed)) (add_assoc (k / p.width) (r * P) x) ∙ word-here feed (r * P + x))
      m (mod-lt q (row-some p (is feed)))
      ∙ ap (sample_of p a) split)

  -- at a row's start there are no sums
  pub row-sums : (l : List ℕ) (n : ℕ) → n % p.row_bytes ≡ 0 → sums_of p l n ≡ no_sums
  row-sums l n e = sums_none p (is feed) l n (row_starts p (ok feed).sound n e)

  pub rows-fed : (answer : Done) {new : List ℕ} → Converted a (geometry p) p.predict p.le p.out_le old answer new → WordsFed p k a sums old sums new
  rows-fed answer {new} c =
      words-fed feed (sample_of p a) (λ q h. row_samples q)
      (finished (convert_faults a (geometry p) old) tt (length a) (stored_at p.width p.out_le (sample_of p a)) old new (sound_more (whole-sound (length a) (geometry p) rows (ok feed).sound) (next (le-ltb (length old) (length a) (words-room feed)) none)) c)
      (sym (sums-here feed) ∙ sums-at-row ∙ sym (row-sums (s feed) (k + length a) both_rows))
    where
      sums-at-row : sums_of p (s feed) (k / p.width * p.width) ≡ no_sums
      sums-at-row = rw (k_words feed) (row-sums (s feed) k begins)
