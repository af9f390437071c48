-- Laws of `struck_at` and `marked`: where a sample is struck; what the first mark in a row is, and what a later one is. Proofs cite
-- these, not the definitions. Assumes nothing.
use mathlib.Core.Path.{◌≡◌, refl, sym, ap, ◌∙◌}
use mathlib.Core.Bool.{Bool, true, false, not, ◌||◌, or-false}
use mathlib.Core.List.{List}
use Prim.Native.Nat.{ℕ, zero, suc, ◌+◌, ◌*◌, ◌-◌, ◌/◌, ◌%◌, ◌≤◌, ◌<◌}
use native.Mathlib.Nat.{mul-one, add-zero, add-suc, add_assoc}
use native.Mathlib.Decide.{dec_lt}
use native.Mathlib.Omega.{arith}
use borrow.Author.Tests.{eqb-true, eqb-false, eq-eqb, ne_eqb, not-true, not-false}
use lib.Dec.{eqb, ltb}
use lib.ListN.{get_or}
use Rattle.answer.specs.Outcome.{pick}
use Rattle.words.specs.Word.{word_at}
use Rattle.laws.proofs.Groups.{into_group}
use Rattle.samples.specs.Sample.{alone}
use Rattle.samples.specs.declared.Strip.{Strip}
use Rattle.samples.proofs.Sums.{in_row, not_alone, first_alone}
use Rattle.laws.proofs.Says.{neither}
use Rattle.damage.specs.Marks.{damaged, any_below, struck_at, struck, tainted, marked, mark_byte}
use Rattle.words.proofs.Digits.{value_none, none-value}

-- a mark is 0 or 1
pub mark_small : (b : Bool) → mark_byte b ≤ 1
mark_small true = omega arith
mark_small false = omega arith

pub mark_hurt : (b : Bool) → (mark_byte b ≡ 0 → ⊥) → b ≡ true
mark_hurt true h = refl
mark_hurt false h = absurd (h refl)

any_none : (n : ℕ) (f : ℕ → Bool) → any_below n f ≡ false → (p : ℕ) → p < n → f p ≡ false
any_none zero f e p h = absurd (omega arith)
any_none (suc n) f e p h = by (dec_lt p n) (any_none n f (neither (any_below n f) (f n) e).0 p)
  where
    by : Dec (p < n) → (p < n → f p ≡ false) → f p ≡ false
    by (yes l) below = below l
    by (no m) below = let last : p ≡ n = omega arith in rw last (neither (any_below n f) (f n) e).1

-- a place below n at which f holds
pub record Somewhere (n : ℕ) (f : ℕ → Bool) : Type 0 where
  pub place : ℕ
  pub below : place < n
  pub holds : f place ≡ true

any_some : (n : ℕ) (f : ℕ → Bool) → any_below n f ≡ true → Somewhere n f
any_some zero f e = absurd (let z : ◌≡◌ {A = ℕ} 0 1 = cc in omega arith)
any_some (suc n) f e = by (f n) refl (any_some n f)
  where
    by : (b : Bool) → f n ≡ b → (any_below n f ≡ true → Somewhere n f) → Somewhere (suc n) f
    by true t back = record { place = n; below = omega arith; holds = t }
    by false t back =
        let there = back (sym (or-false (any_below n f)) ∙ rw t at e) in
        record { place = there.place; below = omega (arith, there.below); holds = there.holds }

any_same : (n : ℕ) (f h : ℕ → Bool) → ((p : ℕ) → p < n → f p ≡ h p) → any_below n f ≡ any_below n h
any_same zero f h e = refl
any_same (suc n) f h e = rw (any_same n f h (λ p l. e p (omega arith)), e n (omega arith))

-- a byte is damaged exactly if it is not 0
pub damaged-hurt : (damage : List ℕ) (k : ℕ) → damaged damage k ≡ true → get_or damage k 0 ≡ 0 → ⊥
damaged-hurt damage k e = eqb-false (get_or damage k 0) 0 (not-true (eqb (get_or damage k 0) 0) e)

pub undamaged_sound : (damage : List ℕ) (k : ℕ) → damaged damage k ≡ false → get_or damage k 0 ≡ 0
undamaged_sound damage k e = eqb-true (get_or damage k 0) 0 (not-false (eqb (get_or damage k 0) 0) e)

module _ (width : ℕ) (damage : List ℕ) (at : ℕ) where
  pub unstruck : struck_at width damage at ≡ false → (p : ℕ) → p < width → get_or damage (at + p) 0 ≡ 0
  unfolding struck_at
  unstruck e p h = undamaged_sound damage (at + p) (any_none width (λ q. damaged damage (at + q)) e p h)

  pub struck_where : struck_at width damage at ≡ true → Somewhere width (λ p. damaged damage (at + p))
  unfolding struck_at
  struck_where e = any_some width (λ p. damaged damage (at + p)) e

  -- one damaged byte is enough
  pub struck-here : (p : ℕ) → p < width → (get_or damage (at + p) 0 ≡ 0 → ⊥) → struck_at width damage at ≡ true
  struck-here p h hurt = by (struck_at width damage at) refl
    where
      by : (b : Bool) → struck_at width damage at ≡ b → b ≡ true
      by true e = refl
      by false e = absurd (hurt (unstruck e p h))

pub struck-same : (width : ℕ) (s t : List ℕ) (i j : ℕ) → ((p : ℕ) → p < width → get_or s (i + p) 0 ≡ get_or t (j + p) 0) → struck_at width s i ≡ struck_at width t j
unfolding struck_at
struck-same width s t i j e = any_same width _ _ (λ p h. ap (λ (x : ℕ). not (eqb x 0)) (e p h))

pub struck_byte : (damage : List ℕ) (at : ℕ) → damaged damage at ≡ struck_at 1 damage at
unfolding struck_at
struck_byte damage at = ap (damaged damage) (sym (add-zero at))

pub struck-one : (damage : List ℕ) (n : ℕ) → struck 1 damage n ≡ damaged damage n
struck-one damage n = sym (struck_byte damage (n * 1)) ∙ ap (damaged damage) (mul-one n)

-- some bytes and the bytes after them
or_together : (a b c : Bool) → (a || (b || c)) ≡ ((a || b) || c)
or_together true b c = refl
or_together false b c = refl

any_after : (n m : ℕ) (f : ℕ → Bool) → (any_below n f || any_below m (λ p. f (n + p))) ≡ any_below (n + m) f
any_after n zero f = or-false (any_below n f) ∙ ap (λ (k : ℕ). any_below k f) (sym (add-zero n))
any_after n (suc m) f = or_together (any_below n f) (any_below m (λ p. f (n + p))) (f (n + m)) ∙ ap (λ (b : Bool). b || f (n + m)) (any_after n m f) ∙ ap (λ (k : ℕ). any_below k f) (sym (add-suc n m))

pub struck-after : (n m : ℕ) (damage : List ℕ) (at : ℕ) → (struck_at n damage at || struck_at m damage (at + n)) ≡ struck_at (n + m) damage at
unfolding struck_at
struck-after n m damage at =
    ap (λ (b : Bool). any_below n (λ p. damaged damage (at + p)) || b) (any_same m _ _ (λ p h. ap (damaged damage) (add_assoc at n p)))
    ∙ any_after n m (λ p. damaged damage (at + p))

-- a word is 0 exactly if none of its bytes is damaged
pub struck-word : (width : ℕ) (damage : List ℕ) (at : ℕ) → not (eqb (word_at damage at width true) 0) ≡ struck_at width damage at
struck-word width damage at = by (struck_at width damage at) refl
  where
    by : (b : Bool) → struck_at width damage at ≡ b → not (eqb (word_at damage at width true) 0) ≡ b
    by true e =
        let there = struck_where width damage at e in
        ap not (ne_eqb (word_at damage at width true) 0 (λ z. damaged-hurt damage (at + there.place) there.holds (none-value width (λ p. get_or damage (at + p) 0) z there.place there.below)))
    by false e = ap not (eq-eqb (word_at damage at width true) 0 (value_none width (λ p. get_or damage (at + p) 0) (unstruck width damage at e)))

-- going back further than n changes nothing
enough : (g : Strip) (predict : Bool) (some : 0 < g.channels) (w : ℕ → Bool) (a b n : ℕ) → n ≤ a → n ≤ b → tainted g predict w a n ≡ tainted g predict w b n
enough g predict some w zero zero n ha hb = refl
enough g predict some w zero (suc b) n ha hb = let none : n ≡ 0 = omega arith in rw (none, first_alone g predict some, or-false (w 0))
enough g predict some w (suc a) zero n ha hb = let none : n ≡ 0 = omega arith in rw (none, first_alone g predict some, or-false (w 0))
enough g predict some w (suc a) (suc b) n ha hb =
    ap (λ (x : Bool). w n || pick (alone g predict n) false x) (enough g predict some w a b (n - g.channels) (omega arith) (omega arith))

untainted : (g : Strip) (predict : Bool) (w : ℕ → Bool) (more n : ℕ) → ((k : ℕ) → k ≤ n → w k ≡ false) → tainted g predict w more n ≡ false
untainted g predict w zero n e = e n (omega arith)
untainted g predict w (suc more) n e = rw (e n (omega arith), untainted g predict w more (n - g.channels) (λ k h. e k (omega arith))) (either (alone g predict n))
  where
    either : (b : Bool) → pick b false false ≡ false
    either true = refl
    either false = refl

module _ (g : Strip) (predict : Bool) (damage : List ℕ) where
  pub marked-alone : (n : ℕ) → alone g predict n ≡ true → marked g predict damage n ≡ struck g.width damage n
  unfolding marked
  marked-alone zero e = refl
  marked-alone (suc n) e = rw e (or-false (struck g.width damage (suc n)))

  pub marked-later : (n : ℕ) → 0 < g.channels → alone g predict n ≡ false → marked g predict damage n ≡ (struck g.width damage n || marked g predict damage (n - g.channels))
  unfolding marked
  marked-later zero some e = absurd (omega (arith, not_alone g predict 0 e))
  marked-later (suc n) some e =
      rw e (ap (λ (x : Bool). struck g.width damage (suc n) || x) (enough g predict some (struck g.width damage) n (suc n - g.channels) (suc n - g.channels) (omega arith) (omega arith)))

  -- a sample that is struck is marked, and with none struck up to n none is
  pub struck-marked : (n : ℕ) → struck g.width damage n ≡ true → marked g predict damage n ≡ true
  unfolding marked
  struck-marked zero e = e
  struck-marked (suc n) e = rw e

  pub none-marked : (n : ℕ) → ((k : ℕ) → k ≤ n → struck g.width damage k ≡ false) → marked g predict damage n ≡ false
  unfolding marked
  none-marked n e = untainted g predict (struck g.width damage) n n e

-- two rows, of one strip or of two, with as many samples and channels, and struck alike: i and j are where they begin, counted in samples
module _ (g h : Strip) (some : 0 < g.channels) (channels : g.channels ≡ h.channels) (per : g.row / g.width ≡ h.row / h.width) (predict : Bool) (s t : List ℕ) (i j : ℕ) (hi : i % (g.row / g.width) ≡ 0) (hj : j % (g.row / g.width) ≡ 0) (own : (m : ℕ) → m < g.row / g.width → struck g.width s (i + m) ≡ struck h.width t (j + m)) where
  alike : (m : ℕ) → m < g.row / g.width → alone g predict (i + m) ≡ alone h predict (j + m)
  alike m l =
      let left = into_group (g.row / g.width) i m hi l in
      let right = into_group (g.row / g.width) j m hj l in
      rw (← channels, ← per) (ap (λ (x : ℕ). not predict || ltb x g.channels) (left ∙ sym right))

  same_upto : (more m : ℕ) → m < more → m < g.row / g.width → marked g predict s (i + m) ≡ marked h predict t (j + m)
  same_upto zero m l u = absurd (omega arith)
  same_upto (suc more) m l u = by (alone g predict (i + m)) refl (λ d. same_upto more (m - g.channels) (omega arith) (omega arith))
    where
      by : (b : Bool) → alone g predict (i + m) ≡ b → (g.channels ≤ m → marked g predict s (i + (m - g.channels)) ≡ marked h predict t (j + (m - g.channels))) → marked g predict s (i + m) ≡ marked h predict t (j + m)
      by true e back = marked-alone g predict s (i + m) e ∙ own m u ∙ sym (marked-alone h predict t (j + m) (sym (alike m u) ∙ e))
      by false e back =
          let d : g.channels ≤ m = omega (arith, in_row g predict (i + m) e, into_group (g.row / g.width) i m hi u) in
          let left : i + m - g.channels ≡ i + (m - g.channels) = omega arith in
          let right : j + m - h.channels ≡ j + (m - g.channels) = omega arith in
          marked-later g predict s (i + m) some e ∙ rw (left, own m u, back d, ← right) (sym (marked-later h predict t (j + m) (omega arith) (sym (alike m u) ∙ e)))

  pub same-marks : (m : ℕ) → m < g.row / g.width → marked g predict s (i + m) ≡ marked h predict t (j + m)
  same-marks m u = same_upto (suc m) m (omega arith) u
