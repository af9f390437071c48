-- The laws of digits, over the base and their number: a number of n digits is below b^n, its digits are those that it was made of,
-- and the number of v's first n digits is v modulo b^n. Assumes nothing.
use mathlib.Core.Path.{◌≡◌, refl, sym, ap, ◌∙◌}
use Prim.Native.Nat.{ℕ, zero, suc, ◌+◌, ◌*◌, ◌/◌, ◌%◌, ◌^◌, ◌≤◌, ◌<◌}
use native.Mathlib.Nat.{pow-zero, pow-suc, pow-succ', one-le-pow, mul_comm, mul-suc, div-one, mod-lt, mod-eq_of_lt, mod-one, add-mul-mod_self_left, add-mul-div_left, div-eq_of_lt, div-div-eq-div-mul, mul-le-mul_left, add_comm}
use native.Mathlib.Omega.{arith}
use lib.Arith.{mod-mul}
use lib.Pow.{pow-add}
use Rattle.words.specs.Digits.{digit, value}

-- digits that agree give one number
pub value_same : (b n : ℕ) (f g : ℕ → ℕ) → ((p : ℕ) → p < n → f p ≡ g p) → value b n f ≡ value b n g
value_same b zero f g e = refl
value_same b (suc n) f g e = rw (e 0 (omega arith), value_same b n (λ p. f (suc p)) (λ p. g (suc p)) (λ p h. e (suc p) (omega arith)))

-- a digit is below the base
pub digit_below : (b p v : ℕ) → 0 < b → digit b p v < b
digit_below b p v h = mod-lt (v / b ^ p) h

-- a number of n digits is below b^n
pub value_below : (b n : ℕ) (f : ℕ → ℕ) → ((p : ℕ) → p < n → f p < b) → value b n f < b ^ n
value_below b zero f h = rw pow-zero (omega arith)
value_below b (suc n) f h =
    let rest = value b n (λ p. f (suc p)) in
    let step : b * suc rest ≤ b * b ^ n = mul-le-mul_left b (value_below b n (λ p. f (suc p)) (λ p l. h (suc p) (omega arith))) in
    rw pow-succ' (omega (arith, mul-suc b rest, h 0 (omega arith)))

-- v's digit p + 1 is digit p of v / b
digit_suc : (b p v : ℕ) → digit b (suc p) v ≡ digit b p (v / b)
digit_suc b p v = rw (pow-succ', ← div-div-eq-div-mul)

digit_zero : (b v : ℕ) → digit b 0 v ≡ v % b
digit_zero b v = rw (pow-zero, div-one)

-- a number without its first digit is that of the others
pub value_over : (b n : ℕ) (f : ℕ → ℕ) → f 0 < b → value b (suc n) f / b ≡ value b n (λ p. f (suc p))
value_over b n f h =
    let rest = value b n (λ p. f (suc p)) in add-mul-div_left (f 0) rest (omega arith) ∙ omega (arith, div-eq_of_lt h)

-- the digits of the number are those that it is made of
pub digit_value : (b n : ℕ) (f : ℕ → ℕ) → ((p : ℕ) → p < n → f p < b) → (p : ℕ) → p < n → digit b p (value b n f) ≡ f p
digit_value b zero f h p l = absurd (omega arith)
digit_value b (suc n) f h zero l =
    let rest = value b n (λ p. f (suc p)) in digit_zero b (f 0 + b * rest) ∙ add-mul-mod_self_left (f 0) b rest ∙ mod-eq_of_lt (h 0 l)
digit_value b (suc n) f h (suc p) l =
    digit_suc b p (value b (suc n) f) ∙ ap (digit b p) (value_over b n f (h 0 (omega arith))) ∙ digit_value b n (λ q. f (suc q)) (λ q m. h (suc q) (omega arith)) p (omega arith)

-- the number of v's first n digits is v modulo b^n
pub value-digit : (b n v : ℕ) → 0 < b → value b n (λ p. digit b p v) ≡ v % b ^ n
value-digit b zero v h = sym (rw pow-zero (mod-one v))
value-digit b (suc n) v h =
    let rest : value b n (λ p. digit b (suc p) v) ≡ v / b % b ^ n = value_same b n _ _ (λ p l. digit_suc b p v) ∙ value-digit b n (v / b) h in
    rw (rest, pow-suc, digit_zero, mod-mul v (one-le-pow n b h) h, mul_comm b (v / b % b ^ n)) (add_comm (v % b) (v / b % b ^ n * b))

-- the first n digits of v are those of v modulo b^n
pub digit_rest : (b n v p : ℕ) → 0 < b → p < n → digit b p (v % b ^ n) ≡ digit b p v
digit_rest b n v p h l =
    ap (digit b p) (sym (value-digit b n v h)) ∙ digit_value b n (λ q. digit b q v) (λ q m. digit_below b q v h) p l

-- and the others those of v divided by b^n
pub digit_over : (b n v p : ℕ) → digit b p (v / b ^ n) ≡ digit b (n + p) v
digit_over b n v p = rw (pow-add, ← div-div-eq-div-mul)

-- a number is 0 exactly if all its digits are
pub value_none : (n : ℕ) (f : ℕ → ℕ) → ((p : ℕ) → p < n → f p ≡ 0) → value 256 n f ≡ 0
value_none zero f e = refl
value_none (suc n) f e = rw (e 0 (omega arith), value_none n (λ p. f (suc p)) (λ p h. e (suc p) (omega arith)))

pub none-value : (n : ℕ) (f : ℕ → ℕ) → value 256 n f ≡ 0 → (p : ℕ) → p < n → f p ≡ 0
none-value zero f e p h = absurd (omega arith)
none-value (suc n) f e zero h = omega arith
none-value (suc n) f e (suc p) h = none-value n (λ q. f (suc q)) (omega arith) p (omega arith)
