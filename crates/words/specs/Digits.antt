-- A number and its digits in a base b, the least significant first: bytes of a word in base 256, bits of a byte in base 2.
-- The laws over the base and the number of digits are in proofs/Digits.antt. Assumes nothing.
use Rattle.std.specs.Prelude.{ℕ, zero, suc, ◌+◌, ◌*◌, ◌/◌, ◌%◌, ◌^◌}

-- digit p of v: v / b^p mod b (rule 2.2)
abbrev pub digit : ℕ → ℕ → ℕ → ℕ
digit b p v = v / b ^ p % b

-- the number whose n digits are f 0, f 1, .. : the first, and b times that of the rest
abbrev pub value : ℕ → ℕ → (ℕ → ℕ) → ℕ
value b zero f = 0
value b (suc n) f = f 0 + b * value b n (λ p. f (suc p))
