-- Numbers of 32 bits: their product, and how many strips a plane has. Assumes nothing.
use Prim.Native.Nat.{◌*◌, ◌+◌, ◌-◌, ◌/◌, ◌<◌, ◌≤◌, ℕ}
use Rattle.std.proofs.Math.Nat.{div-eq_of_lt, mul-add-div_right}
use Rattle.std.proofs.lemmas.Nat.{div-mul-add, div-add-mod'}
use Rattle.std.proofs.Common.{◌≡◌, ◌%◌, ◌∙◌, ap, sym}
use Prim.Native.Nat.{zero, suc, min}
use mir.Facts.{Fits-below}
use mir.Syntax.{w64}
use mir.Val.{Fits}
use native.Mathlib.Nat.{add-mul, div-lt_iff_lt-mul, mul-le-mul, mul-le-mul_left, mul-one, one-mul}
use native.Mathlib.Omega.{arith}

-- two numbers of 32 bits
pub wide_product : {a b : ℕ} → a < 4294967296 → b < 4294967296 → Fits w64 (a * b)
wide_product {a} {b} ha hb =
    let a' : a ≤ 4294967295 = omega arith in
    let b' : b ≤ 4294967295 = omega arith in Fits-below tt (mul-le-mul a' b')

-- strips of a plane are no more than its rows
pub few-strips : (rows each : ℕ) → 0 < each → (rows + (each - 1)) / each < rows + 1
few-strips rows each h =
    let some : 1 ≤ each = omega arith in
    (div-lt_iff_lt-mul {k = each} {x = rows + (each - 1)} {y = rows + 1} h).1 (omega (arith, add-mul rows 1 each, one-mul each, mul-le-mul_left rows some, mul-one rows))

-- a quotient rounded up, as std has it
rest_up : (r each : ℕ) → r < each → (r + (each - 1)) / each ≡ min 1 r
rest_up zero each h = div-eq_of_lt (omega arith) ∙ omega arith
rest_up (suc r) each h =
    let same : suc r + (each - 1) ≡ 1 * each + r = omega arith in
    ap (λ (n : ℕ). n / each) same ∙ div-mul-add 1 each r (omega arith) ∙ omega arith

pub rounded_up : (rows each : ℕ) → 0 < each → rows / each + min 1 (rows % each) ≡ (rows + (each - 1)) / each
rounded_up rows each h =
    let less : rows % each < each = omega arith in
    let same : rows + (each - 1) ≡ rows / each * each + (rows % each + (each - 1)) = omega (arith, div-add-mod' rows each) in
    sym (ap (λ (n : ℕ). n / each) same ∙ mul-add-div_right h (rows / each) (rows % each + (each - 1)) ∙ ap (λ (n : ℕ). rows / each + n) (rest_up (rows % each) each less))
