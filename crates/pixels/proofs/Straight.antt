-- The alpha rule by shares: a colour times its alpha's share, held at 255 and to nearest, is the rule's colour. Assumes nothing.
use Prim.Native.Nat.{ℕ, ◌+◌, ◌-◌, ◌*◌, ◌/◌, ◌≤◌, ◌<◌, min}
use mathlib.Core.Path.{◌≡◌, ◌∙◌}
use native.Mathlib.Decide.{dec_lt}
use native.Mathlib.Nat.{mul-zero, mul-add, mul-div-le, lt-mul-div-succ}
use native.Mathlib.Omega.{arith}
use borrow.Author.Tests.{eq-eqb, ne_eqb}
use lib.Dec.{eqb}
use Rattle.answer.specs.Outcome.{pick}
use Rattle.pixels.specs.Render.{nearest, straightened}
use Rattle.pixels.specs.Finish.{share_of}
use Rattle.pixels.proofs.Nearest.{share_nearest}

-- 255 × u / a in parts of 2^17, held at 255
held-nearest : (full held : ℕ) → held ≡ min full 33423360 → (held + 65536) / 131072 ≡ min 255 (nearest full 131072)
held-nearest full held is = omega arith

pub share_none : (a : ℕ) → a ≡ 0 → share_of a ≡ 0
unfolding share_of
share_none a e = rw (eq-eqb a 0 e)

-- a share times its alpha is 255 in parts of 2^17, and less than alpha more
share_times : (a : ℕ) → 0 < a → (33423360 ≤ a * share_of a) × (a * share_of a < 33423360 + a)
unfolding share_of
share_times a some =
    let n = 33423360 + a - 1 in
    let q = n / a in
    let next : a * (q + 1) ≡ a * q + a * 1 = mul-add a q 1 in
    rw (ne_eqb a 0 (omega arith)) (omega (arith, lt-mul-div-succ n some, next), omega (arith, mul-div-le n a))

pub straight_held : (u a share held : ℕ) → u < 256 → a < 256 → share ≡ share_of a → held ≡ min (u * share) 33423360 → (held + 65536) / 131072 ≡ straightened u a
unfolding straightened
straight_held u a share held byte alpha e is = held-nearest (u * share) held is ∙ by (dec_lt 0 a)
  where
    by : Dec (0 < a) → min 255 (nearest (u * share) 131072) ≡ pick (eqb a 0) 0 (min 255 (nearest (255 * u) a))
    by (yes some) =
        let low : 33423360 ≤ a * share = rw e (share_times a some).0 in
        let high : a * share < 33423360 + a = rw e (share_times a some).1 in
        rw (ne_eqb a 0 (omega arith), share_nearest u a share byte alpha some low high)
    by (no none) =
        let zero_alpha : a ≡ 0 = omega arith in
        let zero_share : share ≡ 0 = e ∙ share_none a zero_alpha in
        rw (zero_alpha, zero_share, mul-zero u)
