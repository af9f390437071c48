-- Which of its plane's a strip is, strip after strip. Assumes nothing.
use Prim.Native.Nat.{◌%◌, ◌*◌, ◌+◌, ◌/◌, ◌<◌, ◌≤◌, suc, zero, ℕ}
use Rattle.answer.specs.Outcome.{pick}
use Rattle.laws.proofs.Groups.{item_of}
use borrow.Author.Tests.{eq-eqb, ne_eqb}
use lib.Dec.{eqb}
use mathlib.Core.Path.{◌≡◌, sym}
use native.Mathlib.Decide.{dec_lt}
use native.Mathlib.Nat.{add-mul, div-add-mod', mod-lt, mod-zero, mul-mod_left, one-mul}
use native.Mathlib.Omega.{arith}

-- no strip comes later in its plane than in the page
pub turn_within : (k per : ℕ) → k % per ≤ k
turn_within k zero = rw (mod-zero k) (omega arith)
turn_within k (suc per) = omega (arith, div-add-mod' k (suc per))

-- the next strip's turn
pub turn_on : (k per turn : ℕ) → turn ≡ k % per → pick (eqb (turn + 1) per) 0 (turn + 1) ≡ (k + 1) % per
turn_on k zero turn e = rw (ne_eqb (turn + 1) 0 (λ z. omega arith), mod-zero) (omega (arith, e, mod-zero k))
turn_on k (suc per) turn e = by (dec_lt (turn + 1) (suc per))
  where
    q : ℕ
    q = k / suc per

    whole : k ≡ q * suc per + turn
    whole = omega (arith, div-add-mod' k (suc per), e)

    by : Dec (turn + 1 < suc per) → pick (eqb (turn + 1) (suc per)) 0 (turn + 1) ≡ (k + 1) % suc per
    by (no g) =
        let z : turn + 1 ≡ suc per = omega (arith, e, mod-lt k {m = suc per} (omega arith)) in
        let full : k + 1 ≡ (q + 1) * suc per = omega (arith, whole, z, add-mul q 1 (suc per), one-mul (suc per)) in
        rw (eq-eqb (turn + 1) (suc per) z, full) (sym (mul-mod_left (q + 1) (suc per)))
    by (yes below) =
        let more : k + 1 ≡ q * suc per + (turn + 1) = omega (arith, whole) in
        rw (ne_eqb (turn + 1) (suc per) (λ z. omega (arith, below)), more) (sym (item_of q (suc per) below))
