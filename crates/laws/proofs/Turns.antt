-- Turns of a loop: the first that has a fault decides, with none the whole is sound; tests and sums turn by turn. Assumes nothing.
use Prim.Native.Nat.{ℕ, zero, suc, ◌+◌, ◌*◌, ◌%◌, ◌<◌}
use mathlib.Core.Path.{◌≡◌, refl, sym, ap, ◌∙◌}
use mathlib.Core.Bool.{Bool, true, false, ◌&&◌}
use mathlib.Core.List.{List, ◌++◌}
use native.Mathlib.Decide.{dec_lt}
use native.Mathlib.Nat.{add-mul, zero-mul, mul-zero, mul-suc, add_assoc, add-zero, add-suc, mod-eq_of_lt, mul-add-mod_self_left}
use native.Mathlib.Numerals.{add-one}
use native.Mathlib.Omega.{arith}
use Rattle.answer.specs.Outcome.{Fault, Sound, none, First}
use Rattle.answer.proofs.Promised.{first_more, sound_then, sound_more, sound-front, sound_back}
use Rattle.laws.specs.Turns.{every, faults_below, sum}
use Rattle.laws.proofs.Says.{clash, one_fails}

-- a turn more of a test
pub every_more : (n : ℕ) (t : ℕ → Bool) {so_far now : Bool} → so_far ≡ every n t → now ≡ t n → (so_far && now) ≡ every (n + 1) t
every_more n t e h = rw (add-one n, e, h)

-- a test that holds at every turn holds at each
pub every_one : (n : ℕ) (t : ℕ → Bool) → every n t ≡ true → (k : ℕ) → k < n → t k ≡ true
every_one n t e k h = by (t k) refl
  where
    by : (b : Bool) → t k ≡ b → t k ≡ true
    by true is = is
    by false is = clash e (one_fails (λ m. every m t) t (λ m. refl) n k h is)

-- one that holds at each turn holds at every one; tests that agree turn by turn
pub every-all : (n : ℕ) (t : ℕ → Bool) → ((k : ℕ) → k < n → t k ≡ true) → every n t ≡ true
every-all zero t e = refl
every-all (suc n) t e = rw (every-all n t (λ k h. e k (omega arith)), e n (omega arith))

pub every-same : (n : ℕ) (t u : ℕ → Bool) → ((k : ℕ) → k < n → t k ≡ u k) → every n t ≡ every n u
every-same zero t u e = refl
every-same (suc n) t u e = rw (every-same n t u (λ k h. e k (omega arith)), e n (omega arith))

-- the first turn that has a fault decides
pub turn_first : (n : ℕ) (f : ℕ → List Fault) (k : ℕ) {r : ℕ} → k < n → Sound (faults_below k f) → First (f k) r → First (faults_below n f) r
turn_first zero f k h s t = absurd (omega arith)
turn_first (suc n) f k {r} h s t = by (dec_lt k n) (λ l. turn_first n f k l s t)
  where
    by : Dec (k < n) → (k < n → First (faults_below n f) r) → First (faults_below n f ++ f n) r
    by (yes l) before = first_more (f n) (before l)
    by (no m) before = let last : n ≡ k = omega arith in rw last (sound_then s t)

-- a turn more without a fault
pub turns_more : (n : ℕ) (f : ℕ → List Fault) → Sound (faults_below n f) → Sound (f n) → Sound (faults_below (n + 1) f)
turns_more n f s t = rw (add-one n) (sound_more s t)

-- turns that are each without a fault
pub turns_all : (n : ℕ) (f : ℕ → List Fault) → ((k : ℕ) → k < n → Sound (f k)) → Sound (faults_below n f)
turns_all zero f s = none
turns_all (suc n) f s = sound_more (turns_all n f (λ k h. s k (omega arith))) (s n (omega arith))

-- a turn of turns without a fault
pub turn_sound : (n : ℕ) (f : ℕ → List Fault) (k : ℕ) → k < n → Sound (faults_below n f) → Sound (f k)
turn_sound zero f k h s = absurd (omega arith)
turn_sound (suc n) f k h s = by (dec_lt k n) (turn_sound n f k)
  where
    by : Dec (k < n) → (k < n → Sound (faults_below n f) → Sound (f k)) → Sound (f k)
    by (yes l) before = before l (sound-front (faults_below n f) (f n) s)
    by (no g) before = let last : k ≡ n = omega arith in rw last (sound_back (faults_below n f) (f n) s)

-- sums: of the same, of a multiple, in two pieces, and of what comes back every `per` turns
pub sum_same : (n : ℕ) (f g : ℕ → ℕ) → ((k : ℕ) → k < n → f k ≡ g k) → sum n f ≡ sum n g
sum_same zero f g e = refl
sum_same (suc n) f g e = rw (sum_same n f g (λ k h. e k (omega arith)), e n (omega arith))

pub sum_times : (n : ℕ) (f : ℕ → ℕ) (c : ℕ) → sum n (λ k. f k * c) ≡ sum n f * c
sum_times zero f c = sym (zero-mul c)
sum_times (suc n) f c = rw (sum_times n f c) (sym (add-mul (sum n f) (f n) c))

pub sum-on : (n m : ℕ) (f : ℕ → ℕ) → sum (n + m) f ≡ sum n f + sum m (λ k. f (n + k))
sum-on n zero f = rw (add-zero n) (sym (add-zero (sum n f)))
sum-on n (suc m) f = rw (add-suc n m, sum-on n m f) (add_assoc (sum n f) (sum m (λ k. f (n + k))) (f (n + m)))

pub sum_again : (per m : ℕ) (f : ℕ → ℕ) → sum (per * m) (λ k. f (k % per)) ≡ sum per f * m
sum_again per zero f = rw (mul-zero per, mul-zero (sum per f))
sum_again per (suc m) f =
    let more : per * suc m ≡ per * m + per = mul-suc per m in
    rw (more, sum-on (per * m) per (λ k. f (k % per)), sum_again per m f)
    (rw (mul-suc (sum per f) m) (ap (λ (n : ℕ). sum per f * m + n) (sum_same per (λ k. f ((per * m + k) % per)) f (λ k h. ap f (mul-add-mod_self_left per m k ∙ mod-eq_of_lt h)))))
