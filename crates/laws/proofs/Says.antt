-- A test of the definitions and the plain fact that it stands for: each gives the other. Rules are put together from tests as facts are from facts.
-- Assumes nothing.
use Prim.Native.Nat.{ℕ, zero, suc, ◌+◌, ◌-◌, ◌≤◌, ◌<◌}
use mathlib.Core.Path.{◌≡◌, refl, sym, ap, ◌∙◌}
use mathlib.Core.Bool.{Bool, true, false, not, ◌&&◌, ◌||◌}
use mathlib.Core.Logic.{◌⊎◌, inl, inr}
use native.Mathlib.Decide.{dec_lt}
use native.Mathlib.Omega.{arith}
use borrow.Author.Tests.{eq-eqb, eqb-true, not-true, lt-ltb, le-ltb, ltb-false}
use lib.Dec.{eqb, ltb}

pub record Says (b : Bool) (P : Type 0) : Type 0 where
  pub tells : b ≡ true → P
  pub told : P → b ≡ true

-- a flag is not up and down
pub clash : {A : Type 0} {b : Bool} → b ≡ true → b ≡ false → A
clash t f = absurd (let z : ◌≡◌ {A = ℕ} 0 1 = cc in omega arith)

-- what holds is no fault
pub held : {b : Bool} → b ≡ true → not b ≡ false
held e = rw e

-- a test of what does not hold
pub refuted : {b : Bool} {P : Type 0} → Says b P → (P → ⊥) → false ≡ b
refuted {b} {P} s n = by b refl
  where
    by : (x : Bool) → b ≡ x → false ≡ b
    by true e = absurd (n (s.tells e))
    by false e = sym e

pub equal : (a b : ℕ) → Says (eqb a b) (a ≡ b)
equal a b = record { tells = eqb-true a b; told = eq-eqb a b }

pub up : (b : Bool) → Says b (b ≡ true)
up b = record { tells = λ e. e; told = λ e. e }

pub down : (b : Bool) → Says (not b) (b ≡ false)
down b = record { tells = not-true b; told = λ e. rw e }

pub both : {a b : Bool} {P Q : Type 0} → Says a P → Says b Q → Says (a && b) (P × Q)
both {a} {b} {P} {Q} s r = record { tells = by a refl; told = λ p. rw (s.told p.0, r.told p.1) }
  where
    by : (x : Bool) → a ≡ x → (x && b) ≡ true → P × Q
    by true e t = (s.tells e, r.tells t)
    by false e t = clash t refl

pub and_left : (a b : Bool) → (a && b) ≡ true → a ≡ true
and_left a b e = ((both (up a) (up b)).tells e).0

pub and_right : (a b : Bool) → (a && b) ≡ true → b ≡ true
and_right a b e = ((both (up a) (up b)).tells e).1

pub either : {a b : Bool} {P Q : Type 0} → Says a P → Says b Q → Says (a || b) (P ⊎ Q)
either {a} {b} {P} {Q} s r = record { tells = by a refl; told = back }
  where
    by : (x : Bool) → a ≡ x → (x || b) ≡ true → P ⊎ Q
    by true e t = inl (s.tells e)
    by false e t = inr (r.tells t)

    back : P ⊎ Q → (a || b) ≡ true
    back (inl p) = rw (s.told p)
    back (inr q) = rw (r.told q) (last a)
      where
        last : (x : Bool) → (x || true) ≡ true
        last true = refl
        last false = refl

pub whenever : {a b : Bool} {P Q : Type 0} → Says a P → Says b Q → Says (not a || b) (P → Q)
whenever {a} {b} {P} {Q} s r = record { tells = λ t p. r.tells (rw (s.told p) at t); told = back a refl }
  where
    back : (x : Bool) → a ≡ x → (P → Q) → (not x || b) ≡ true
    back true e f = r.told (f (s.tells e))
    back false e f = refl

pub or_else : {a b : Bool} {P Q : Type 0} → Says a P → Says b Q → Says (a || b) ((P → ⊥) → Q)
or_else {a} {b} {P} {Q} s r = record { tells = by a refl; told = back a refl }
  where
    by : (x : Bool) → a ≡ x → (x || b) ≡ true → (P → ⊥) → Q
    by true e t n = absurd (n (s.tells e))
    by false e t n = r.tells t

    back : (x : Bool) → a ≡ x → ((P → ⊥) → Q) → (x || b) ≡ true
    back true e f = refl
    back false e f = r.told (f (λ p. clash (s.told p) e))

-- the same test of the same fact in other words
pub restated : {b : Bool} {P Q : Type 0} → Says b P → (P → Q) → (Q → P) → Says b Q
restated s to from = record { tells = λ e. to (s.tells e); told = λ q. s.told (from q) }

-- an `or` that fails
pub neither : (a b : Bool) → (a || b) ≡ false → (a ≡ false) × (b ≡ false)
neither true b e = absurd (let z : ◌≡◌ {A = ℕ} 0 1 = cc in omega arith)
neither false b e = (refl, e)

-- what is left is compared instead of a sum that may be too large
pub left_over : (n a b : ℕ) → a ≤ n → ltb (n - a) b ≡ ltb n (a + b)
left_over n a b h = by (dec_lt (n - a) b)
  where
    by : Dec (n - a < b) → ltb (n - a) b ≡ ltb n (a + b)
    by (yes l) = lt-ltb (n - a) b l ∙ sym (lt-ltb n (a + b) (omega arith))
    by (no g) = le-ltb (n - a) b (omega arith) ∙ sym (le-ltb n (a + b) (omega arith))

-- a bound that is asked for on a condition
pub inside_if : (on : Bool) (n end : ℕ) → (on && ltb n end) ≡ false → on ≡ true → end ≤ n
inside_if true n end e is = ltb-false n end e
inside_if false n end e is = clash is refl

nowhere : (b : Bool) → (b && false) ≡ false
nowhere true = refl
nowhere false = refl

-- `all n` is that every test below n holds: one that fails is enough
pub one_fails : (all test : ℕ → Bool) → ((n : ℕ) → all (suc n) ≡ (all n && test n)) → (n k : ℕ) → k < n → test k ≡ false → all n ≡ false
one_fails all test step zero k h e = absurd (omega arith)
one_fails all test step (suc n) k h e = step n ∙ by (dec_lt k n) (one_fails all test step n k)
  where
    by : Dec (k < n) → (k < n → test k ≡ false → all n ≡ false) → (all n && test n) ≡ false
    by (yes l) before = rw (before l e)
    by (no m) before = let last : n ≡ k = omega arith in ap (λ (b : Bool). all n && b) (ap test last ∙ e) ∙ nowhere (all n)
