-- The laws of words, over the width: what a word's digits are and what word a number's digits make, in either byte order;
-- that adding and taking away modulo 256^width undo each other. Assumes nothing.
use mathlib.Core.Path.{◌≡◌, refl, sym, ap, ◌∙◌}
use mathlib.Core.Bool.{Bool, true, false}
use mathlib.Core.List.{List}
use Prim.Native.Nat.{ℕ, suc, ◌+◌, ◌-◌, ◌/◌, ◌%◌, ◌<◌}
use native.Mathlib.Decide.{dec_lt}
use native.Mathlib.Nat.{add-zero, div-one, one-le-pow, mod-lt, mod-eq_of_lt, mod-add-mod, add-mod_right, add_comm}
use native.Mathlib.Omega.{arith}
use lib.ListN.{get_or, drop, length-take, get_or-eq_default}
use Rattle.answer.proofs.Filling.{part, part_at}
use Rattle.words.specs.Digits.{digit}
use Rattle.words.specs.Word.{ordered, Bytes, word_at, backwards, modulus, plus, minus}
use Rattle.words.proofs.Digits.{value_same, value_below, value_over, digit_below, digit_value, value-digit}

pub ordered_below : (le : Bool) (width p : ℕ) → p < width → ordered le width p < width
ordered_below true width p h = h
ordered_below false width p h = omega arith

-- the other order of the other order is the first
pub ordered_twice : (le : Bool) (width p : ℕ) → p < width → ordered le width (ordered le width p) ≡ p
ordered_twice true width p h = refl
ordered_twice false width p h = omega arith

pub modulus_pos : (width : ℕ) → 0 < modulus width
modulus_pos width = one-le-pow width 256 (omega arith)

-- a word is below 256^width
pub word_below : (s : List ℕ) (at width : ℕ) (le : Bool) → Bytes s → word_at s at width le < modulus width
word_below s at width le b = value_below 256 width (λ p. get_or s (at + ordered le width p) 0) (λ p h. b (at + ordered le width p))

-- a word of one byte is that byte
pub word-one : (s : List ℕ) (at : ℕ) (le : Bool) → word_at s at 1 le ≡ get_or s at 0
word-one s at true = rw (add-zero at) (omega arith)
word-one s at false = rw (add-zero at) (omega arith)

-- and its one digit is that byte
pub digit-one : (le : Bool) (v : ℕ) → v < 256 → digit 256 (ordered le 1 0) v ≡ v
digit-one true v h = rw div-one (mod-eq_of_lt h)
digit-one false v h = rw div-one (mod-eq_of_lt h)

-- a word's digits are its bytes
pub word-digit : (s : List ℕ) (at width : ℕ) (le : Bool) → Bytes s → (p : ℕ) → p < width → digit 256 (ordered le width p) (word_at s at width le) ≡ get_or s (at + p) 0
word-digit s at width le b p h =
    digit_value 256 width (λ q. get_or s (at + ordered le width q) 0) (λ q l. b (at + ordered le width q)) (ordered le width p) (ordered_below le width p h)
    ∙ ap (λ (q : ℕ). get_or s (at + q) 0) (ordered_twice le width p h)

-- bytes that are v's digits make the word v modulo 256^width
pub digits_word : (s : List ℕ) (at width : ℕ) (le : Bool) (v : ℕ) → ((p : ℕ) → p < width → get_or s (at + p) 0 ≡ digit 256 (ordered le width p) v) → word_at s at width le ≡ v % modulus width
digits_word s at width le v e =
    value_same 256 width _ _ (λ p h. e (ordered le width p) (ordered_below le width p h) ∙ ap (λ (q : ℕ). digit 256 q v) (ordered_twice le width p h))
    ∙ value-digit 256 width v (omega arith)

-- its digits are those of the word, backwards
pub backwards-digit : (width v p : ℕ) → p < width → digit 256 p (backwards width v) ≡ digit 256 (ordered false width p) v
backwards-digit width v p h = digit_value 256 width (λ q. digit 256 (ordered false width q) v) (λ q l. digit_below 256 (ordered false width q) v (omega arith)) p h

-- without the last of its bytes it is one byte shorter
pub backwards_over : (width v : ℕ) → backwards (suc width) v / 256 ≡ backwards width v
backwards_over width v =
    value_over 256 width (λ p. digit 256 (ordered false (suc width) p) v) (digit_below 256 (ordered false (suc width) 0) v (omega arith))
    ∙ value_same 256 width _ _ (λ p h. ap (λ (q : ℕ). digit 256 q v) (omega arith))

-- and is the word of the same bytes in the other order
pub word-backwards : (s : List ℕ) (at width : ℕ) → Bytes s → backwards width (word_at s at width true) ≡ word_at s at width false
word-backwards s at width b = value_same 256 width _ _ (λ p h. word-digit s at width true b (ordered false width p) (ordered_below false width p h))

-- so a word that was read little-endian is the word asked for, as it is or backwards
pub word_straight : (s : List ℕ) (at width : ℕ) (le : Bool) (v : ℕ) → le ≡ true → v ≡ word_at s at width true → v ≡ word_at s at width le
word_straight s at width le v e is = rw e is

pub word-other : (s : List ℕ) (at width : ℕ) (le : Bool) (v r : ℕ) → Bytes s → le ≡ false → v ≡ word_at s at width true → r ≡ backwards width v → r ≡ word_at s at width le
word-other s at width le v r b e is back = rw e (back ∙ ap (backwards width) is ∙ word-backwards s at width b)

-- bytes that agree make one word
pub word_same : (s t : List ℕ) (i j width : ℕ) (le : Bool) → ((p : ℕ) → p < width → get_or s (i + p) 0 ≡ get_or t (j + p) 0) → word_at s i width le ≡ word_at t j width le
word_same s t i j width le e = value_same 256 width _ _ (λ p h. e (ordered le width p) (ordered_below le width p h))

pub plus_below : (width a b : ℕ) → plus width a b < modulus width
plus_below width a b = mod-lt (a + b) (modulus_pos width)

pub minus_below : (width a b : ℕ) → minus width a b < modulus width
minus_below width a b = mod-lt (a + (modulus width - b)) (modulus_pos width)

-- taking away what was added, and adding what was taken away
pub plus-minus : (width a b : ℕ) → a < modulus width → b < modulus width → minus width (plus width a b) b ≡ a
plus-minus width a b ha hb =
    let m = modulus width in
    let round : a + b + (m - b) ≡ a + m = omega arith in
    mod-add-mod (a + b) m (m - b) ∙ ap (λ (x : ℕ). x % m) round ∙ add-mod_right a m ∙ mod-eq_of_lt ha

pub minus_plus : (width a b : ℕ) → a < modulus width → b < modulus width → plus width (minus width a b) b ≡ a
minus_plus width a b ha hb =
    let m = modulus width in
    let round : a + (m - b) + b ≡ a + m = omega arith in
    mod-add-mod (a + (m - b)) m b ∙ ap (λ (x : ℕ). x % m) round ∙ add-mod_right a m ∙ mod-eq_of_lt ha

-- `plus` cancels, on either side
pub plus-left : (width a c b : ℕ) → a < modulus width → c < modulus width → b < modulus width → plus width a b ≡ plus width c b → a ≡ c
plus-left width a c b ha hc hb e = sym (plus-minus width a b ha hb) ∙ ap (λ (x : ℕ). minus width x b) e ∙ plus-minus width c b hc hb

plus_swapped : (width a b : ℕ) → plus width a b ≡ plus width b a
plus_swapped width a b = ap (λ (x : ℕ). x % modulus width) (add_comm a b)

pub plus-right : (width a b d : ℕ) → a < modulus width → b < modulus width → d < modulus width → plus width a b ≡ plus width a d → b ≡ d
plus-right width a b d ha hb hd e = plus-left width b d a hb hd ha (plus_swapped width b a ∙ e ∙ plus_swapped width a d)

-- bytes of a part are bytes
pub part_bytes : (a e : ℕ) (l : List ℕ) → Bytes l → Bytes (part a e l)
part_bytes a e l b i = by (dec_lt i (e - a))
  where
    by : Dec (i < e - a) → get_or (part a e l) i 0 < 256
    by (yes h) = rw (part_at a e l i h) (b (a + i))
    by (no h) = rw (get_or-eq_default (part a e l) 0 {n = i} (omega (arith, length-take (e - a) (drop a l)))) (omega arith)
