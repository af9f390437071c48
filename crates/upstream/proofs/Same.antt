-- Upstream's definitions and ours are the same, so that what is shown of one holds of the other: layouts and reversal on every input, words and moduli
-- on the widths 1, 2, 4 and 8, samples on good geometry. At width 3 upstream refuses and ours serves; elsewhere both refuse, and the definitions
-- need not agree. Assumes nothing.
use Prim.Native.Nat.{ℕ, zero, suc, ◌+◌, ◌-◌, ◌*◌, ◌/◌, ◌%◌, ◌≤◌, ◌<◌}
use mathlib.Core.Path.{◌≡◌, refl, sym, ap, ◌∙◌}
use mathlib.Core.Bool.{Bool, true, false, not, ◌||◌, or-false, or-true}
use mathlib.Core.List.{List, [], ◌∷◌}
use mathlib.Core.Logic.{inl, inr}
use native.Mathlib.Nat.{mod-le, mod-lt, add-zero, add_assoc}
use native.Mathlib.Omega.{arith}
use borrow.Author.Tests.{eq-eqb, ne_eqb, eqb-false, not-false, ltb-true, ltb-false, le-ltb}
use lib.ListN.{length}
use lib.Dec.{eqb, ltb}
use Rattle.answer.specs.Outcome.{pick, Sound, none, next, done, xor}
use Rattle.answer.proofs.Promised.{sound-here, sound_rest, finishing}
use Rattle.words.specs.Digits as Digits
use Rattle.words.specs.Word as Word
use Rattle.words.specs.Word.{word_at, ordered}
use Rattle.words.specs.Promises.{served}
use Rattle.words.proofs.Words.{word-one}
use Rattle.words.proofs.Served.{served-one}
use Rattle.words.proofs.Among.{OneOf}
use Rattle.transport.specs.Moved as Moved
use Rattle.samples.specs.Sample as Strips
use Rattle.samples.specs.Sample.{alone, summed, word_of, stored_at}
use Rattle.samples.specs.declared.Strip.{Strip}
use Rattle.layout.specs.declared.RasterLayout.{RasterLayout}
use Rattle.layout.specs.Layout as Ours
use Rattle.layout.specs.Valid.{Valid as LayoutValid, Within}
use Rattle.laws.proofs.Says.{held}
use Rattle.layout.proofs.Theorems.{record_valid, valid_accepted, answered_sound}
use Rattle.pixels.specs.Render as Render
use Rattle.pixels.specs.Render.{straightened, plain_byte}
use Rattle.samples.specs.Promises.{strip_faults}
use Rattle.samples.proofs.Strips.{good_checked}
use Rattle.upstream.specs.Clause.{Exactly}
use Rattle.upstream.specs.Native.{word16, word32, digit, width_ok, modulus, word, first, sample_within, sample, converted, reversed, Valid}
use Rattle.upstream.specs.Layout as Layout
use Rattle.upstream.specs.Layout.{unequal}

-- the widths: upstream's, and 3
pub width_more : (width : ℕ) → served width ≡ (width_ok width || eqb width 3)
unfolding served
width_more width = by (eqb width 1) (eqb width 2) (eqb width 3) (eqb width 4) (eqb width 8)
  where
    by : (a b t c d : Bool) → (a || (b || (t || (c || (d || false))))) ≡ (a || b || c || d || t)
    by true b t c d = refl
    by false true t c d = refl
    by false false true c d = sym (or-true (c || d))
    by false false false true d = refl
    by false false false false d = refl

pub width_same : (width : ℕ) → (width ≡ 3 → ⊥) → width_ok width ≡ served width
width_same width other = sym (rw (width_more width, ne_eqb width 3 other) (or-false (width_ok width)))

ok_served : (width : ℕ) → width_ok width ≡ true → served width ≡ true
ok_served width e = rw (width_more width, e)

ok_other : (width : ℕ) → width_ok width ≡ true → width ≡ 3 → ⊥
ok_other width e a = let never : width_ok 3 ≡ true = rw a at e in let z : ◌≡◌ {A = ℕ} 0 1 = cc in omega arith

-- words of two and of four bytes
pub word16-same : (s : List ℕ) (at : ℕ) (le : Bool) → word16 s at le ≡ word_at s at 2 le
word16-same s at true = rw (add-zero at) (omega arith)
word16-same s at false = rw (add-zero at) (omega arith)

pub word32-same : (s : List ℕ) (at : ℕ) (le : Bool) → word32 s at le ≡ word_at s at 4 le
word32-same s at true = rw (add-zero at) (omega arith)
word32-same s at false = rw (add-zero at) (omega arith)

word64_same : (s : List ℕ) (at : ℕ) (le : Bool) → word s at 8 le ≡ word_at s at 8 le
unfolding word
word64_same s at true = rw (add-zero at, add_assoc at 4 1, add_assoc at 4 2, add_assoc at 4 3) (omega arith)
word64_same s at false = rw (add-zero at, add_assoc at 4 1, add_assoc at 4 2, add_assoc at 4 3) (omega arith)

word-one_two_four : (s : List ℕ) (at : ℕ) (le : Bool) → ((word s at 1 le ≡ word_at s at 1 le) × (word s at 2 le ≡ word_at s at 2 le)) × (word s at 4 le ≡ word_at s at 4 le)
unfolding word
word-one_two_four s at le = ((sym (word-one s at le), word16-same s at le), word32-same s at le)

-- the word, and the modulus, at each of upstream's widths
pub word_same : (s : List ℕ) (at width : ℕ) (le : Bool) → width_ok width ≡ true → word s at width le ≡ word_at s at width le
word_same s at width le e = by (served-one width (ok_served width e))
  where
    by : OneOf width (1 ∷ 2 ∷ 3 ∷ 4 ∷ 8 ∷ []) → word s at width le ≡ word_at s at width le
    by (inl a) = rw a (word-one_two_four s at le).0.0
    by (inr (inl a)) = rw a (word-one_two_four s at le).0.1
    by (inr (inr (inl a))) = absurd (ok_other width e a)
    by (inr (inr (inr (inl a)))) = rw a (word-one_two_four s at le).1
    by (inr (inr (inr (inr (inl a))))) = rw a (word64_same s at le)
    by (inr (inr (inr (inr (inr z))))) = absurd z

pub modulus-same : (width : ℕ) → width_ok width ≡ true → modulus width ≡ Word.modulus width
unfolding modulus
modulus-same width e = by (served-one width (ok_served width e))
  where
    by : OneOf width (1 ∷ 2 ∷ 3 ∷ 4 ∷ 8 ∷ []) → modulus width ≡ Word.modulus width
    by (inl a) = rw a
    by (inr (inl a)) = rw a
    by (inr (inr (inl a))) = absurd (ok_other width e a)
    by (inr (inr (inr (inl a)))) = rw a
    by (inr (inr (inr (inr (inl a))))) = rw a
    by (inr (inr (inr (inr (inr z))))) = absurd z

-- the digit is one definition, and so is the byte order
pub digit-same : (v p : ℕ) → digit v p ≡ Digits.digit 256 p v
digit-same v p = refl

pub ordered_same : (le : Bool) (width p : ℕ) → pick le p (width - 1 - p) ≡ ordered le width p
ordered_same true width p = refl
ordered_same false width p = refl

-- `sample` meets the source's equation, on every input
module _ (s : List ℕ) (row ch bytes : ℕ) (le predict : Bool) where
  first-first : first row ch predict 0 ≡ true
  first-first = by (ltb 0 ch) refl
    where
      by : (b : Bool) → ltb 0 ch ≡ b → first row ch predict 0 ≡ true
      by true e = rw (e, or-true)
      by false e = let none : ch ≡ 0 = omega (arith, ltb-false 0 ch e) in rw (eq-eqb ch 0 none, or-true)

  some_before : (n : ℕ) → first row ch predict n ≡ false → 0 < ch
  some_before n e = by (eqb ch 0) refl
    where
      by : (b : Bool) → eqb ch 0 ≡ b → 0 < ch
      by true t = absurd (let all : first row ch predict n ≡ true = rw (t, or-true) in let z : ◌≡◌ {A = ℕ} 0 1 = cc in omega arith)
      by false t = omega (arith, eqb-false ch 0 t)

  -- going back further than n changes nothing
  back-enough : (a b n : ℕ) → n ≤ a → n ≤ b → sample_within s row ch bytes le predict a n ≡ sample_within s row ch bytes le predict b n
  back-enough zero zero n ha hb = refl
  back-enough zero (suc b) n ha hb = let none : n ≡ 0 = omega arith in rw (none, first-first, add-zero)
  back-enough (suc a) zero n ha hb = let none : n ≡ 0 = omega arith in rw (none, first-first, add-zero)
  back-enough (suc a) (suc b) n ha hb = by (first row ch predict n) refl (λ h. back-enough a b (n - ch) (omega arith) (omega arith))
    where
      by : (t : Bool) → first row ch predict n ≡ t → (0 < ch → sample_within s row ch bytes le predict a (n - ch) ≡ sample_within s row ch bytes le predict b (n - ch)) → sample_within s row ch bytes le predict (suc a) n ≡ sample_within s row ch bytes le predict (suc b) n
      by true e less = rw e
      by false e less = rw (e, less (some_before n e))

  pub sample_equation : (n : ℕ) → sample s row ch bytes le predict n ≡ (word s (n * bytes) bytes le + pick (first row ch predict n) 0 (sample s row ch bytes le predict (n - ch))) % modulus bytes
  unfolding sample
  sample_equation zero = rw (first-first, add-zero)
  sample_equation (suc n) = by (first row ch predict (suc n)) refl
    where
      by : (t : Bool) → first row ch predict (suc n) ≡ t → sample_within s row ch bytes le predict (suc n) (suc n) ≡ (word s (suc n * bytes) bytes le + pick (first row ch predict (suc n)) 0 (sample_within s row ch bytes le predict (suc n - ch) (suc n - ch))) % modulus bytes
      by true e = rw e
      by false e = let some = some_before (suc n) e in rw (e, back-enough n (suc n - ch) (suc n - ch) (omega arith) (omega arith))

  -- and nothing else meets it
  module _ (f : ℕ → ℕ) (meets : (n : ℕ) → f n ≡ (word s (n * bytes) bytes le + pick (first row ch predict n) 0 (f (n - ch))) % modulus bytes) where
    by_less : (n : ℕ) (t : Bool) → first row ch predict n ≡ t → (t ≡ false → f (n - ch) ≡ sample s row ch bytes le predict (n - ch)) → f n ≡ sample s row ch bytes le predict n
    by_less n true e less = rw (meets n, sample_equation n, e)
    by_less n false e less = rw (meets n, sample_equation n, e, less refl)

    only_below : (m n : ℕ) → n ≤ m → f n ≡ sample s row ch bytes le predict n
    only_below zero n h =
        by_less n (first row ch predict n) refl (λ e. absurd (let none : n ≡ 0 = omega arith in let some = first-first in let z : ◌≡◌ {A = ℕ} 0 1 = cc in omega arith))
    only_below (suc m) n h = by_less n (first row ch predict n) refl (λ e. only_below m (n - ch) (omega (arith, some_before n e)))

    pub sample_only : (n : ℕ) → f n ≡ sample s row ch bytes le predict n
    sample_only n = only_below n n (omega arith)

-- nothing added is nothing
outside : (t : Bool) (w x m : ℕ) → (w + pick t 0 x) % m ≡ pick t (w % m) ((w + x) % m)
outside true w x m = rw add-zero
outside false w x m = refl

-- samples, on good geometry: channels, a row of words, and a width of upstream's
module _ (g : Strip) (predict le : Bool) (raw : List ℕ) (ok : width_ok g.width ≡ true) (some : 0 < g.channels) (words : 0 < g.row / g.width) where
  first-same : (n : ℕ) → first (g.row / g.width) g.channels predict n ≡ alone g predict n
  first-same n =
      let row : eqb (g.row / g.width) 0 ≡ false = ne_eqb (g.row / g.width) 0 (λ e. omega arith) in
      let channel : eqb g.channels 0 ≡ false = ne_eqb g.channels 0 (λ e. omega arith) in
      rw (row, channel) (by (not predict) (ltb n g.channels) refl (ltb (n % (g.row / g.width)) g.channels) refl)
    where
      by : (a b : Bool) → ltb n g.channels ≡ b → (c : Bool) → ltb (n % (g.row / g.width)) g.channels ≡ c → (a || false || false || b || c) ≡ (a || c)
      by true b e c f = refl
      by false false e c f = refl
      by false true e true f = refl
      by false true e false f = absurd (omega (arith, ltb-true n g.channels e, ltb-false (n % (g.row / g.width)) g.channels f, mod-le n (g.row / g.width)))

  within_same : (more n : ℕ) → sample_within raw (g.row / g.width) g.channels g.width le predict more n ≡ summed g predict (word_of g.width le raw) more n
  within_same zero n = rw (word_same raw (n * g.width) g.width le ok, modulus-same g.width ok)
  within_same (suc more) n =
      rw (first-same n, word_same raw (n * g.width) g.width le ok, modulus-same g.width ok, within_same more (n - g.channels)) (outside (alone g predict n) _ _ _)

  pub sample-same : (n : ℕ) → sample raw (g.row / g.width) g.channels g.width le predict n ≡ Strips.sample g predict le raw n
  unfolding sample Strips.sample
  sample-same n = within_same n n

  pub converted-same : (out_le : Bool) (k : ℕ) → converted raw (g.row / g.width) g.channels g.width le predict out_le k ≡ stored_at g.width out_le (Strips.sample g predict le raw) k
  converted-same out_le k = rw (sample-same (k / g.width), ordered_same out_le g.width (k % g.width))

-- the strip's `valid` holds exactly where our check finds no fault, but for width 3
pub sound_valid : (raw : List ℕ) (g : Strip) → (g.width ≡ 3 → ⊥) → Sound (strip_faults (length raw) g) → Valid raw g.row g.channels g.width
sound_valid raw g other s =
    let good = good_checked (length raw) g s in
    record {
      width = width_same g.width other ∙ not-false (served g.width) (sound-here s);
      channels = (good.channel, ltb-false 64 g.channels (sound-here (sound_rest (sound_rest s))));
      row = good.long;
      groups = good.rows;
      rows = good.whole;
    }

pub valid_sound : (raw : List ℕ) (g : Strip) → Valid raw g.row g.channels g.width → Sound (strip_faults (length raw) g)
valid_sound raw g v =
    next (held (ok_served g.width v.width))
    (next (ne_eqb g.channels 0 (λ e. omega (arith, v.channels.0)))
    (next (le-ltb 64 g.channels v.channels.1)
    (next (ne_eqb g.row 0 (λ e. omega (arith, v.row)))
    (next (held (eq-eqb _ 0 v.groups))
    (next (held (eq-eqb _ 0 v.rows)) none)))))

pub valid_same : (raw : List ℕ) (g : Strip) → (g.width ≡ 3 → ⊥) → Exactly (Sound (strip_faults (length raw) g)) (Valid raw g.row g.channels g.width)
valid_same raw g other = (sound_valid raw g other, valid_sound raw g)

-- and the layout's exactly where the record check finds none, within rule 5.3's limits
pub record_sound_valid : (l : RasterLayout) → Sound (Ours.record_faults l) → LayoutValid l × Within l
record_sound_valid l s = record_valid l (finishing (Ours.record_faults l) tt s)

pub valid_record_sound : (l : RasterLayout) → LayoutValid l → Within l → Sound (Ours.record_faults l)
valid_record_sound l v t =
    let good = valid_accepted l v t in
    answered_sound l.fields l (ap done good.1 ∙ finishing (Ours.layout_faults l.fields) (Ours.completed l.fields) good.0)

pub layout_valid_same : (l : RasterLayout) → Exactly (Sound (Ours.record_faults l)) (LayoutValid l × Within l)
layout_valid_same l = (record_sound_valid l, λ v. valid_record_sound l v.0 v.1)

pub reversed-same : (v : ℕ) → reversed v ≡ Moved.reversed v
unfolding reversed
reversed-same v = omega arith

-- layouts
pub source_index-same : (l : RasterLayout) (k : ℕ) → Layout.source_index l k ≡ Ours.source_index l k
unfolding Layout.source_index Ours.packed_index Ours.plain_index Ours.high_first
source_index-same l k = refl

pub palette_index-same : (l : RasterLayout) (k byte : ℕ) → Layout.palette_index l k byte ≡ Render.palette_index l (k / 3 % l.fields.w) byte
unfolding Layout.palette_index
palette_index-same l k byte = refl

unequal-same : (a b : Bool) → unequal a b ≡ xor a b
unequal-same true true = refl
unequal-same true false = refl
unequal-same false true = refl
unequal-same false false = refl

pub straight_color-same : (v a : ℕ) (multiplied white : Bool) → Layout.straight_color v a multiplied white ≡ Render.straight_colour multiplied white v a
unfolding Layout.straight_color straightened
straight_color-same v a multiplied white = refl

pub layout_converted-same : (l : RasterLayout) (s raw : List ℕ) (k : ℕ) → Layout.converted l s raw k ≡ Render.converted l s raw k
unfolding Layout.converted Layout.palette_index Layout.straight_color Render.converted plain_byte straightened Layout.source_index Ours.packed_index Ours.plain_index Ours.high_first
layout_converted-same l s raw k = rw (word16-same, unequal-same)

-- the source's differences are never below 0 on what it admits, so that natural numbers serve: going back, a byte's place in its word, a byte's place
-- in its pair, a slot of a byte, and a pixel's last byte
pub back_fits : (row ch n : ℕ) (predict : Bool) → first row ch predict n ≡ false → ch ≤ n
back_fits row ch n predict e = by (ltb n ch) refl
  where
    by : (b : Bool) → ltb n ch ≡ b → ch ≤ n
    by true t = absurd (let all : first row ch predict n ≡ true = rw (t, or-true) in let z : ◌≡◌ {A = ℕ} 0 1 = cc in omega arith)
    by false t = ltb-false n ch t

pub place-fits : (bytes k : ℕ) → 0 < bytes → k % bytes + 1 ≤ bytes
place-fits bytes k some = omega (arith, mod-lt k some)

pub pair_fits : (c : ℕ) → (c % 2 ≤ c) × (c % 2 ≤ c - c % 2 + 1)
pair_fits c = (omega arith, omega arith)

pub slot_fits : (l : RasterLayout) (x : ℕ) → (l.fields.slots ≡ 8 → x % l.fields.slots ≤ 7) × (l.fields.slots ≡ 2 → x % l.fields.slots ≤ 1)
slot_fits l x = (λ e. rw e (omega arith), λ e. rw e (omega arith))

pub pixel_fits : (ch k : ℕ) → 0 < ch → (k % ch ≤ k) × (1 ≤ k - k % ch + ch)
pixel_fits ch k some = (mod-le k ch, omega arith)
