-- Forward prediction then conversion, and conversion then forward prediction, succeed and give the first bytes back: for every strip of bytes, good
-- geometry, byte orders and prediction flag, shown once over the width. Assumes nothing.
use Rattle.std.specs.Prelude.{Ok}
use mathlib.Core.Path.{◌≡◌, refl, sym, ap, subst, ◌∙◌}
use mathlib.Core.Bool.{Bool, true, false}
use mathlib.Core.List.{List, [], ◌∷◌}
use Prim.Native.Nat.{ℕ, zero, suc, ◌+◌, ◌-◌, ◌*◌, ◌%◌, ◌≤◌, ◌<◌}
use native.Mathlib.Nat.{mod-lt, mod-eq_of_lt, mul-le-mul_right}
use native.Mathlib.Omega.{arith}
use borrow.Author.Tests.{ltb-false, le-ltb}
use lib.ListN.{length, take, length-take}
use lib.Dec.{ltb}
use Rattle.answer.specs.Outcome.{Sound, next, none, done, unless, output_too_small, Promise, outcome, Done}
use Rattle.answer.specs.Table.{table}
use Rattle.answer.proofs.Promised.{second_over_first, stays, answer_once, done-sound, sound-done, sound-front, sound_back, sound-here, sound_more}
use Rattle.answer.proofs.Filling.{length-table}
use Rattle.words.specs.Word.{Bytes, modulus}
use Rattle.words.proofs.Words.{modulus_pos, word_below, plus_below, minus_below, plus-minus, minus_plus}
use Rattle.samples.specs.Sample.{Good, alone, word_of, sample, difference, stored_at}
use Rattle.samples.specs.declared.Strip.{Strip}
use Rattle.samples.specs.Promises.{strip_faults, convert_faults, Converted, Forwarded}
use Rattle.samples.proofs.Sums.{not_alone, sample-alone, sample-later, difference-alone, difference-later}
use Rattle.samples.proofs.Stored.{stored-word, stored_same, stored_self}
use Rattle.samples.proofs.Strips.{bytes-words, good_checked}

pub sample_below : (g : Strip) (predict le : Bool) (raw : List ℕ) → 0 < g.channels → (n : ℕ) → sample g predict le raw n < modulus g.width
sample_below g predict le raw some n = by (alone g predict n) refl
  where
    by : (b : Bool) → alone g predict n ≡ b → sample g predict le raw n < modulus g.width
    by true e = rw (sample-alone g predict le raw n e) (mod-lt (word_of g.width le raw n) (modulus_pos g.width))
    by false e = rw (sample-later g predict le raw n some e) (plus_below g.width (word_of g.width le raw n) (sample g predict le raw (n - g.channels)))

pub difference_below : (g : Strip) (predict le : Bool) (raw : List ℕ) (n : ℕ) → difference g predict le raw n < modulus g.width
difference_below g predict le raw n = by (alone g predict n) refl
  where
    by : (b : Bool) → alone g predict n ≡ b → difference g predict le raw n < modulus g.width
    by true e = rw (difference-alone g predict le raw n e) (mod-lt (word_of g.width le raw n) (modulus_pos g.width))
    by false e = rw (difference-later g predict le raw n e) (minus_below g.width (word_of g.width le raw n) (word_of g.width le raw (n - g.channels)))

module _ (g : Strip) (predict le out_le : Bool) (raw : List ℕ) (good : Good (length raw) g) (b : Bytes raw) where
  word_fits : (n : ℕ) → word_of g.width le raw n < modulus g.width
  word_fits n = word_below raw (n * g.width) g.width le b

  back-room : (n : ℕ) → n * g.width + g.width ≤ length raw → (n - g.channels) * g.width + g.width ≤ length raw
  back-room n room = let less : n - g.channels ≤ n = omega arith in omega (arith, mul-le-mul_right g.width less)

  -- what forward prediction writes, and what conversion reads in it
  forwarded : List ℕ
  forwarded = table (length raw) (stored_at g.width out_le (difference g predict le raw))

  word_forwarded : (n : ℕ) → n * g.width + g.width ≤ length raw → word_of g.width out_le forwarded n ≡ difference g predict le raw n
  unfolding forwarded
  word_forwarded n room = stored-word (length raw) g.width out_le (difference g predict le raw) n room ∙ mod-eq_of_lt (difference_below g predict le raw n)

  read_back : (more n : ℕ) → n < more → n * g.width + g.width ≤ length raw → sample g predict out_le forwarded n ≡ word_of g.width le raw n
  read_back zero n l room = absurd (omega arith)
  read_back (suc more) n l room = by (alone g predict n) refl (read_back more (n - g.channels))
    where
      by : (a : Bool) → alone g predict n ≡ a → (n - g.channels < more → (n - g.channels) * g.width + g.width ≤ length raw → sample g predict out_le forwarded (n - g.channels) ≡ word_of g.width le raw (n - g.channels)) → sample g predict out_le forwarded n ≡ word_of g.width le raw n
      by true e back =
          sample-alone g predict out_le forwarded n e
          ∙ ap (λ (x : ℕ). x % modulus g.width) (word_forwarded n room ∙ difference-alone g predict le raw n e ∙ mod-eq_of_lt (word_fits n))
          ∙ mod-eq_of_lt (word_fits n)
      by false e back =
          let earlier = back (omega (arith, not_alone g predict n e, good.channel)) (back-room n room) in
          sample-later g predict out_le forwarded n good.channel e
          ∙ rw (word_forwarded n room, earlier, difference-later g predict le raw n e) (minus_plus g.width (word_of g.width le raw n) (word_of g.width le raw (n - g.channels)) (word_fits n) (word_fits (n - g.channels)))

  -- what conversion writes, and what forward prediction makes of it
  converted : List ℕ
  converted = table (length raw) (stored_at g.width out_le (sample g predict le raw))

  word-converted : (n : ℕ) → n * g.width + g.width ≤ length raw → word_of g.width out_le converted n ≡ sample g predict le raw n
  unfolding converted
  word-converted n room = stored-word (length raw) g.width out_le (sample g predict le raw) n room ∙ mod-eq_of_lt (sample_below g predict le raw good.channel n)

  taken_back : (n : ℕ) → n * g.width + g.width ≤ length raw → difference g predict out_le converted n ≡ word_of g.width le raw n
  taken_back n room = by (alone g predict n) refl
    where
      by : (a : Bool) → alone g predict n ≡ a → difference g predict out_le converted n ≡ word_of g.width le raw n
      by true e =
          difference-alone g predict out_le converted n e
          ∙ ap (λ (x : ℕ). x % modulus g.width) (word-converted n room ∙ sample-alone g predict le raw n e ∙ mod-eq_of_lt (word_fits n))
          ∙ mod-eq_of_lt (word_fits n)
      by false e =
          difference-later g predict out_le converted n e
          ∙ rw (word-converted n room, word-converted (n - g.channels) (back-room n room), sample-later g predict le raw n good.channel e)
          (plus-minus g.width (word_of g.width le raw n) (sample g predict le raw (n - g.channels)) (word_fits n) (sample_below g predict le raw good.channel (n - g.channels)))

  pub forward_converted : table (length raw) (stored_at g.width le (sample g predict out_le (table (length raw) (stored_at g.width out_le (difference g predict le raw))))) ≡ raw
  unfolding forwarded
  forward_converted =
      stored_same (length raw) g.width le _ (word_of g.width le raw) (bytes-words (length raw) g good) (λ n room. read_back (suc n) n (omega arith) room)
      ∙ stored_self g.width le raw good.wide b

  pub converted_forward : table (length raw) (stored_at g.width le (difference g predict out_le (table (length raw) (stored_at g.width out_le (sample g predict le raw))))) ≡ raw
  unfolding converted
  converted_forward =
      stored_same (length raw) g.width le _ (word_of g.width le raw) (bytes-words (length raw) g good) taken_back
      ∙ stored_self g.width le raw good.wide b

-- what a call that is done has shown of the strip
good-strip : (raw : List ℕ) (g : Strip) (old : List ℕ) → Sound (convert_faults raw g old) → Good (length raw) g
good-strip raw g old s = good_checked (length raw) g (sound-front (strip_faults (length raw) g) _ s)

-- a second call over what the first wrote has no fault either, where there is room
second_sound : (raw old x old' : List ℕ) (g : Strip) → Sound (convert_faults raw g old) → length x ≡ length old → length raw ≤ length old' → Sound (convert_faults (take (length raw) x) g old')
second_sound raw old x old' g s same room =
    let front = strip_faults (length raw) g in
    let last = output_too_small (ltb (length old) (length raw)) ∷ [] in
    let fits = ltb-false (length old) (length raw) (sound-here (sound_back front last s)) in
    let long : length (take (length raw) x) ≡ length raw = length-take (length raw) x ∙ omega arith in
    rw long (sound_more (sound-front front last s) (next (le-ltb (length old') (length raw) room) none))

module _ (raw old x old' y : List ℕ) (g : Strip) (predict le out_le : Bool) (b : Bytes raw) (answer : Done) (room : length raw ≤ length old') where
  -- what the first call has shown, and so the second call's answer
  module _ (v : ℕ → ℕ) (p : Promise (unless (convert_faults raw g old) tt) (table (length raw) v) old (done (tt {0})) x) where
    sound : Sound (convert_faults raw g old)
    sound = done-sound (convert_faults raw g old) tt tt (sym p.answers)

    second_done : outcome answer ≡ unless (convert_faults (take (length raw) x) g old') tt → answer ≡ (Ok tt)
    second_done q =
        let fits = ltb-false (length old) (length raw) (sound-here (sound_back (strip_faults (length raw) g) (output_too_small (ltb (length old) (length raw)) ∷ []) sound)) in
        let same = stays (done tt) x (omega (arith, length-table (length raw) v)) p in
        answer_once answer (Ok tt) (q ∙ sound-done tt (second_sound raw old x old' g sound same room))

  pub forward_then_convert : Forwarded raw g predict le out_le old (Ok tt) x → Converted (take (length raw) x) g predict out_le le old' answer y → (answer ≡ (Ok tt)) × (take (length raw) y ≡ raw)
  forward_then_convert p q =
      let v = stored_at g.width out_le (difference g predict le raw) in
      let is = second_done v p q.answers in
      let good = good-strip raw g old (sound v p) in (
        is,
        second_over_first (length raw) v (λ l. stored_at g.width le (sample g predict out_le l)) old x old' y tt tt p (subst (λ (a : Done). Converted (take (length raw) x) g predict out_le le old' a y) is q)
            ∙ forward_converted g predict le out_le raw good b,
      )

  pub convert_then_forward : Converted raw g predict le out_le old (Ok tt) x → Forwarded (take (length raw) x) g predict out_le le old' answer y → (answer ≡ (Ok tt)) × (take (length raw) y ≡ raw)
  convert_then_forward p q =
      let v = stored_at g.width out_le (sample g predict le raw) in
      let is = second_done v p q.answers in
      let good = good-strip raw g old (sound v p) in (
        is,
        second_over_first (length raw) v (λ l. stored_at g.width le (difference g predict out_le l)) old x old' y tt tt p (subst (λ (a : Done). Forwarded (take (length raw) x) g predict out_le le old' a y) is q)
            ∙ converted_forward g predict le out_le raw good b,
      )
