-- A sample is marked exactly if two strips, alike in every byte that is not damaged, have different samples there: shown once over the
-- width. Unmarked: no word on the sample's chain can differ. Marked: all 0, and all 0 but for a 1 at a damaged byte of the chain.
-- Assumes nothing.
use mathlib.Core.Path.{◌≡◌, refl, sym, ap, ◌∙◌}
use mathlib.Core.Bool.{Bool, true, false, ◌||◌, or-false}
use mathlib.Core.List.{List}
use Prim.Native.Nat.{ℕ, zero, suc, ◌+◌, ◌-◌, ◌*◌, ◌/◌, ◌%◌, ◌≤◌, ◌<◌}
use native.Mathlib.Nat.{suc-mul, mul-le-mul_right, mod-eq_of_lt, div-mul-le_self}
use native.Mathlib.Omega.{arith}
use borrow.Author.Tests.{eq-eqb, ne_eqb}
use lib.Dec.{eqb}
use lib.ListN.{length, get_or}
use Rattle.answer.specs.Table.{table}
use Rattle.answer.proofs.Filling.{length-table, table_at}
use Rattle.words.specs.Digits.{digit}
use Rattle.words.specs.Word.{ordered, Bytes, modulus}
use Rattle.words.proofs.Words.{word_below, word-digit, word_same, plus-left, plus-right}
use Rattle.samples.specs.Sample.{alone, word_of, sample}
use Rattle.samples.specs.declared.Strip.{Strip}
use Rattle.samples.proofs.Sums.{not_alone, sample-alone, sample-later}
use Rattle.laws.proofs.Says.{neither}
use Rattle.samples.proofs.Undo.{sample_below}
use Rattle.damage.specs.Marks.{struck, marked, mark_byte, Alike, Differ}
use Rattle.laws.proofs.Lists.{each-table}
use Rattle.damage.proofs.Marking.{mark_small, damaged-hurt, unstruck, struck_where, marked-alone, marked-later}

-- sample n and the one `channels` before it are there
abbrev There : Strip → List ℕ → ℕ → Type 0
There g damage n = n * g.width + g.width ≤ length damage

pub there : (g : Strip) (damage : List ℕ) (n : ℕ) → n < length damage / g.width → There g damage n
there g damage n h = omega (arith, mul-le-mul_right g.width h, suc-mul n g.width, div-mul-le_self (length damage) g.width)

before_there : (g : Strip) (damage : List ℕ) (n : ℕ) → There g damage n → There g damage (n - g.channels)
before_there g damage n room = let less : n - g.channels ≤ n = omega arith in omega (arith, mul-le-mul_right g.width less)

module _ (g : Strip) (some : 0 < g.channels) (predict le : Bool) (damage : List ℕ) where
  -- words with no damaged byte are the same in strips that are alike
  same_word : (a b : List ℕ) → Alike damage a b → (n : ℕ) → There g damage n → struck g.width damage n ≡ false → word_of g.width le a n ≡ word_of g.width le b n
  same_word a b alike n room e =
      word_same a b (n * g.width) (n * g.width) g.width le (λ p h. alike.same (n * g.width + p) (omega arith) (unstruck g.width damage (n * g.width) e p h))

  same_upto : (a b : List ℕ) → Alike damage a b → (more n : ℕ) → n < more → There g damage n → marked g predict damage n ≡ false → sample g predict le a n ≡ sample g predict le b n
  same_upto a b alike zero n l room e = absurd (omega arith)
  same_upto a b alike (suc more) n l room e = by (alone g predict n) refl (same_upto a b alike more (n - g.channels))
    where
      by : (t : Bool) → alone g predict n ≡ t → (n - g.channels < more → There g damage (n - g.channels) → marked g predict damage (n - g.channels) ≡ false → sample g predict le a (n - g.channels) ≡ sample g predict le b (n - g.channels)) → sample g predict le a n ≡ sample g predict le b n
      by true t back =
          sample-alone g predict le a n t
          ∙ ap (λ (x : ℕ). x % modulus g.width) (same_word a b alike n room (sym (marked-alone g predict damage n t) ∙ e))
          ∙ sym (sample-alone g predict le b n t)
      by false t back =
          let none = neither (struck g.width damage n) (marked g predict damage (n - g.channels)) (sym (marked-later g predict damage n some t) ∙ e) in
          sample-later g predict le a n some t
          ∙ rw (same_word a b alike n room none.0, back (omega (arith, not_alone g predict n t)) (before_there g damage n room) none.1) (sym (sample-later g predict le b n some t))

  -- an unmarked sample is the same whatever the damaged bytes held
  pub unmarked_agree : (a b : List ℕ) → Alike damage a b → (n : ℕ) → There g damage n → marked g predict damage n ≡ false → sample g predict le a n ≡ sample g predict le b n
  unmarked_agree a b alike n room e = same_upto a b alike (suc n) n (omega arith) room e

  -- the strip of 0s, and the one with a 1 at byte k
  abbrev zeros : List ℕ
  zeros = table (length damage) (λ i. 0)

  abbrev one_at : ℕ → List ℕ
  one_at k = table (length damage) (λ i. mark_byte (eqb i k))

  small : (f : ℕ → ℕ) → ((i : ℕ) → f i < 256) → Bytes (table (length damage) f)
  small f h = each-table (λ x. x < 256) (omega arith) (length damage) f h

  zeros_bytes : Bytes zeros
  zeros_bytes = small (λ i. 0) (λ i. omega arith)

  one-bytes : (k : ℕ) → Bytes (one_at k)
  one-bytes k = small (λ i. mark_byte (eqb i k)) (λ i. omega (arith, mark_small (eqb i k)))

  zeros_at : (i : ℕ) → i < length damage → get_or zeros i 0 ≡ 0
  zeros_at i h = table_at (length damage) (λ j. 0) i h

  one-there : (k : ℕ) → k < length damage → get_or (one_at k) k 0 ≡ 1
  one-there k h = table_at (length damage) (λ j. mark_byte (eqb j k)) k h ∙ ap mark_byte (eq-eqb k k refl)

  one_elsewhere : (k i : ℕ) → i < length damage → (i ≡ k → ⊥) → get_or (one_at k) i 0 ≡ 0
  one_elsewhere k i h other = table_at (length damage) (λ j. mark_byte (eqb j k)) i h ∙ ap mark_byte (ne_eqb i k other)

  one_alike : (k : ℕ) → (get_or damage k 0 ≡ 0 → ⊥) → Alike damage zeros (one_at k)
  one_alike k hurt = record {
    a-long = length-table (length damage) (λ i. 0);
    b-long = length-table (length damage) (λ i. mark_byte (eqb i k));
    a-bytes = zeros_bytes;
    b-bytes = one-bytes k;
    same = λ i h e. zeros_at i h ∙ sym (one_elsewhere k i h (λ same. hurt (rw same at e)));
  }

  fits : (s : List ℕ) → Bytes s → (n : ℕ) → word_of g.width le s n < modulus g.width
  fits s b n = word_below s (n * g.width) g.width le b

  -- the two words of sample n differ where byte k is one of its bytes, and are the same where it is not
  words-differ : (n p : ℕ) → p < g.width → There g damage n → word_of g.width le zeros n ≡ word_of g.width le (one_at (n * g.width + p)) n → ⊥
  words-differ n p h room e =
      let k = n * g.width + p in
      let digits = sym (word-digit zeros (n * g.width) g.width le zeros_bytes p h) ∙ ap (digit 256 (ordered le g.width p)) e ∙ word-digit (one_at k) (n * g.width) g.width le (one-bytes k) p h in
      omega (arith, digits, zeros_at k (omega arith), one-there k (omega arith))

  words_same : (n k : ℕ) → k < n * g.width → There g damage n → word_of g.width le zeros n ≡ word_of g.width le (one_at k) n
  words_same n k h room =
      word_same zeros (one_at k) (n * g.width) (n * g.width) g.width le (λ p l. zeros_at (n * g.width + p) (omega arith) ∙ sym (one_elsewhere k (n * g.width + p) (omega arith) (λ e. omega arith)))

  -- a damaged byte, none past sample n's, whose change is seen there
  record Seen (n : ℕ) : Type 0 where
    place : ℕ
    hurt : get_or damage place 0 ≡ 0 → ⊥
    below : place < n * g.width + g.width
    seen : sample g predict le zeros n ≡ sample g predict le (one_at place) n → ⊥

  -- it is one of sample n's own, where equal samples make equal words
  own_seen : (n : ℕ) → There g damage n → struck g.width damage n ≡ true → ((k : ℕ) → (get_or damage k 0 ≡ 0 → ⊥) → sample g predict le zeros n ≡ sample g predict le (one_at k) n → word_of g.width le zeros n ≡ word_of g.width le (one_at k) n) → Seen n
  own_seen n room e words =
      let own = struck_where g.width damage (n * g.width) e in
      let k = n * g.width + own.place in
      let hurt = damaged-hurt damage k own.holds in
      record { place = k; hurt = hurt; below = omega (arith, own.below); seen = λ same. words-differ n own.place own.below room (words k hurt same) }

  -- or it was seen at the sample before
  later_seen : (n : ℕ) → There g damage n → alone g predict n ≡ false → Seen (n - g.channels) → Seen n
  later_seen n room t earlier =
      let k = earlier.place in
      let next : suc (n - g.channels) ≤ n = omega (arith, not_alone g predict n t) in
      let early : k < n * g.width = omega (arith, earlier.below, mul-le-mul_right g.width next, suc-mul (n - g.channels) g.width) in
      record {
        place = k;
        hurt = earlier.hurt;
        below = omega arith;
        seen = λ same. earlier.seen (plus-right g.width (word_of g.width le zeros n) (sample g predict le zeros (n - g.channels)) (sample g predict le (one_at k) (n - g.channels)) (fits zeros zeros_bytes n) (sample_below g predict le zeros some (n - g.channels)) (sample_below g predict le (one_at k) some (n - g.channels))
            (sym (sample-later g predict le zeros n some t) ∙ same ∙ sample-later g predict le (one_at k) n some t ∙ rw (words_same n k early room)));
      }

  seen_upto : (more n : ℕ) → n < more → There g damage n → marked g predict damage n ≡ true → Seen n
  seen_upto zero n l room e = absurd (omega arith)
  seen_upto (suc more) n l room e = by (alone g predict n) refl (marked g predict damage (n - g.channels)) refl (seen_upto more (n - g.channels))
    where
      by : (t : Bool) → alone g predict n ≡ t → (m : Bool) → marked g predict damage (n - g.channels) ≡ m → (n - g.channels < more → There g damage (n - g.channels) → marked g predict damage (n - g.channels) ≡ true → Seen (n - g.channels)) → Seen n
      by true t m b back =
          own_seen n room (sym (marked-alone g predict damage n t) ∙ e) (λ k hurt same.
          sym (mod-eq_of_lt (fits zeros zeros_bytes n)) ∙ sym (sample-alone g predict le zeros n t) ∙ same ∙ sample-alone g predict le (one_at k) n t ∙ mod-eq_of_lt (fits (one_at k) (one-bytes k) n))
      by false t true b back = later_seen n room t (back (omega (arith, not_alone g predict n t)) (before_there g damage n room) b)
      by false t false b back =
          let own : struck g.width damage n ≡ true = sym (or-false (struck g.width damage n)) ∙ ap (λ (x : Bool). struck g.width damage n || x) (sym b) ∙ sym (marked-later g predict damage n some t) ∙ e in
          own_seen n room own (λ k hurt same.
          let before = unmarked_agree zeros (one_at k) (one_alike k hurt) (n - g.channels) (before_there g damage n room) b in
          plus-left g.width (word_of g.width le zeros n) (word_of g.width le (one_at k) n) (sample g predict le zeros (n - g.channels)) (fits zeros zeros_bytes n) (fits (one_at k) (one-bytes k) n) (sample_below g predict le zeros some (n - g.channels))
          (sym (sample-later g predict le zeros n some t) ∙ same ∙ sample-later g predict le (one_at k) n some t ∙ rw (← before)))

  pub marked-differ : (n : ℕ) → There g damage n → marked g predict damage n ≡ true → Differ g predict le damage n
  marked-differ n room e =
      let found = seen_upto (suc n) n (omega arith) room e in
      record { a = zeros; b = one_at found.place; alike = one_alike found.place found.hurt; differ = found.seen }

  pub differ-marked : (n : ℕ) → There g damage n → Differ g predict le damage n → marked g predict damage n ≡ true
  differ-marked n room two = by (marked g predict damage n) refl
    where
      by : (b : Bool) → marked g predict damage n ≡ b → b ≡ true
      by true e = refl
      by false e = absurd (two.differ (unmarked_agree two.a two.b two.alike n room e))
