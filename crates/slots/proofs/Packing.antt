-- The bits of up to eight columns as one byte. Assumes nothing.
use Prim.Native.Nat.{ℕ, zero, suc, ◌+◌, ◌-◌, ◌*◌, ◌^◌, ◌≤◌, ◌<◌}
use mathlib.Core.Path.{◌≡◌, sym, ap, ◌∙◌}
use mathlib.Core.Bool.{Bool}
use mathlib.Core.List.{List}
use mathlib.Core.Logic.{◌⊎◌, ⊎_elim}
use native.Mathlib.Decide.{dec_lt}
use native.Mathlib.Nat.{zero-add, mul-one, pow-zero, pow-succ', mul_left_comm, suc-add, pow-le-pow_right}
use native.Mathlib.Omega.{arith}
use borrow.Author.Tests.{lt-ltb, le-ltb}
use lib.ListN.{length, get_or}
use lib.Dec.{eqb, ltb}
use Rattle.answer.specs.Outcome.{xor}
use Rattle.laws.proofs.Picks.{pick_below}
use Rattle.answer.proofs.Filling.{part, length_part, part_at}
use Rattle.words.specs.Digits.{value}
use Rattle.words.proofs.Digits.{value_same, value_below}
use Rattle.pixels.specs.Planes.{bilevel_bit}
use Rattle.slots.specs.Rows.{bit_at, byte_from}

pub bit_within : (white : Bool) (picture : List ℕ) (k : ℕ) → k < length picture → bit_at white picture k ≡ bilevel_bit white (get_or picture k 0)
bit_within white picture k h = rw (lt-ltb k (length picture) h)

pub bit_past : (white : Bool) (picture : List ℕ) (k : ℕ) → length picture ≤ k → bit_at white picture k ≡ 0
bit_past white picture k h = rw (le-ltb k (length picture) h)

-- the first n columns are the digits of a number, the last the lowest
pub record Packed (white : Bool) (columns : List ℕ) (n byte : ℕ) : Type 0 where
  pub so_far : byte ≡ value 2 n (λ p. bilevel_bit white (get_or columns (n - 1 - p) 0))

-- digits of which the lowest are 0
shifted : (m n : ℕ) (f : ℕ → ℕ) → ((p : ℕ) → p < m → f p ≡ 0) → value 2 (m + n) f ≡ value 2 n (λ p. f (m + p)) * 2 ^ m
shifted zero n f none = simp (pow-zero, zero-add, mul-one)
shifted (suc m) n f none =
    let rest = shifted m n (λ p. f (suc p)) (λ p h. none (suc p) (omega arith)) in
    let first = none 0 (omega arith) in
    let twice : value 2 n (λ p. f (suc (m + p))) * (2 * 2 ^ m) ≡ 2 * (value 2 n (λ p. f (suc (m + p))) * 2 ^ m) = mul_left_comm _ 2 (2 ^ m) in
    simp (suc-add, pow-succ') (omega arith)

-- each digit is a bit, so seven of them are below 128
bit_small : (white : Bool) (v : ℕ) → bilevel_bit white v < 2
bit_small white v = pick_below (xor (eqb v 0) white) {x = 0} {y = 1} {n = 2} (omega arith) (omega arith)

pub packed_small : {white : Bool} {columns : List ℕ} {n byte : ℕ} → n < 8 → Packed white columns n byte → byte < 128
packed_small {white} {columns} {n} few is =
    let below = value_below 2 n (λ p. bilevel_bit white (get_or columns (n - 1 - p) 0)) (λ p h. bit_small white _) in
    let most : 2 ^ n ≤ 2 ^ 7 = pow-le-pow_right {n = 2} (omega arith) {i = n} {j = 7} (omega arith) in omega (arith, is.so_far)

pub byte_below : (white : Bool) (columns : List ℕ) (k : ℕ) → byte_from white columns k < 256
byte_below white columns k = value_below 2 8 (λ p. bit_at white columns (k + (7 - p))) (λ p h. pick_below (ltb (k + (7 - p)) (length columns)) {y = 0} (bit_small white (get_or columns (k + (7 - p)) 0)) (omega arith))

-- so the number of up to eight columns, put at the top of a byte, is the byte that begins with them
pub packed_byte : {white : Bool} {columns : List ℕ} {byte : ℕ} → length columns ≤ 8 → Packed white columns (length columns) byte → byte * 2 ^ (8 - length columns) ≡ byte_from white columns 0
packed_byte {white} {columns} {byte} room is =
    let n = length columns in
    let m = 8 - n in
    let all : m + n ≡ 8 = omega arith in
    let f : ℕ → ℕ = λ p. bit_at white columns (0 + (7 - p)) in
    let put : value 2 (m + n) f ≡ value 2 n (λ p. f (m + p)) * 2 ^ m = shifted m n f (λ p h. bit_past white columns (0 + (7 - p)) (omega arith)) in
    let same : value 2 n (λ p. f (m + p)) ≡ value 2 n (λ p. bilevel_bit white (get_or columns (n - 1 - p) 0)) =
    value_same 2 n _ _ (λ p h. ap (bit_at white columns) (omega arith) ∙ bit_within white columns (n - 1 - p) (omega arith)) in
    let whole : value 2 (m + n) f ≡ value 2 8 f = ap (λ (k : ℕ). value 2 k f) all in
    ap (λ (k : ℕ). k * 2 ^ m) (is.so_far ∙ sym same) ∙ sym put ∙ whole

-- columns of a row by themselves: eight, or its last
pub part_byte : (white : Bool) (picture : List ℕ) (a e : ℕ) → a ≤ e → e ≤ length picture → (e ≡ a + 8) ⊎ (e ≡ length picture) → byte_from white (part a e picture) 0 ≡ byte_from white picture a
part_byte white picture a e h room end = value_same 2 8 _ _ each
  where
    each : (p : ℕ) → p < 8 → bit_at white (part a e picture) (0 + (7 - p)) ≡ bit_at white picture (a + (7 - p))
    each p l = by (dec_lt (a + (7 - p)) e)
      where
        by : Dec (a + (7 - p) < e) → bit_at white (part a e picture) (0 + (7 - p)) ≡ bit_at white picture (a + (7 - p))
        by (yes inside) =
            bit_within white (part a e picture) (0 + (7 - p)) (rw (length_part a e picture h room) (omega arith))
            ∙ ap (bilevel_bit white) (part_at a e picture (0 + (7 - p)) (omega arith) ∙ ap (λ (k : ℕ). get_or picture k 0) (omega arith))
            ∙ sym (bit_within white picture (a + (7 - p)) (omega arith))
        by (no past) =
            bit_past white (part a e picture) (0 + (7 - p)) (rw (length_part a e picture h room) (omega arith))
            ∙ sym (bit_past white picture (a + (7 - p)) (⊎_elim (λ q. absurd (omega arith)) (λ q. omega arith) end))
