-- What a quotient to nearest is: the only whole number within a half of it, of two the larger. And a colour times its alpha's share is, to
-- nearest, the colour divided by alpha. Assumes nothing.
use Prim.Native.Nat.{ℕ, ◌+◌, ◌-◌, ◌*◌, ◌≤◌, ◌<◌}
use mathlib.Core.Path.{◌≡◌}
use native.Mathlib.Nat.{mul_comm, mul_assoc, mul_left_comm, mul-add, mul-le-mul, mul-le-mul_left, le_of_mul-le-mul_left, lt_of_mul-lt-mul_left, mul-div-le, lt-mul-div-succ, div-eq_of_lt-le}
use native.Mathlib.Omega.{arith}
use Rattle.pixels.specs.Render.{nearest}

-- n / d is from q less a half to below q and a half
pub record Near (n d q : ℕ) : Type 0 where
  pub low : 2 * (d * q) ≤ 2 * n + d
  pub high : 2 * n < 2 * (d * q) + d

pub nearest-within : (n d : ℕ) → 0 < d → Near n d (nearest n d)
nearest-within n d some =
    let q = nearest n d in
    let e : 2 * d * q ≡ 2 * (d * q) = mul_assoc 2 d q in
    let f : 2 * d * (q + 1) ≡ 2 * d * q + 2 * d * 1 = mul-add (2 * d) q 1 in
    let two : 0 < 2 * d = omega arith in
    record { low = omega (arith, mul-div-le (2 * n + d) (2 * d), e); high = omega (arith, lt-mul-div-succ (2 * n + d) two, e, f) }

pub nearest_only : (n d q : ℕ) → Near n d q → nearest n d ≡ q
nearest_only n d q near =
    let e : q * (2 * d) ≡ 2 * (d * q) = rw (mul_comm q (2 * d), mul_assoc 2 d q) in
    let f : (q + 1) * (2 * d) ≡ 2 * (d * q) + 2 * d = rw (mul_comm (q + 1) (2 * d), mul-add (2 * d) q 1, mul_assoc 2 d q) (omega arith) in
    div-eq_of_lt-le (2 * d) (omega (arith, e, near.low)) (omega (arith, f, near.high))

module _ (u a share : ℕ) (byte : u < 256) (alpha : a < 256) (some : 0 < a) (low : 33423360 ≤ a * share) (high : a * share < 33423360 + a) where
  pub share_nearest : nearest (u * share) 131072 ≡ nearest (255 * u) a
  share_nearest =
      let q = nearest (255 * u) a in
      let near = nearest-within (255 * u) a some in
      let full : a * (u * share) ≡ u * (a * share) = mul_left_comm a u share in
      let ones : a * (131072 * q) ≡ 131072 * (a * q) = mul_left_comm a 131072 q in
      let least : u * 33423360 ≤ u * (a * share) = mul-le-mul_left u low in
      let most : u * (a * share) ≤ u * (33423360 + (a - 1)) = mul-le-mul_left u (omega arith) in
      let over : u * (33423360 + (a - 1)) ≡ u * 33423360 + u * (a - 1) = mul-add u 33423360 (a - 1) in
      let rest : u * (a - 1) ≤ 255 * 254 = mul-le-mul {n₁ = u} {m₁ = a - 1} {n₂ = 255} {m₂ = 254} (omega arith) (omega arith) in
      let up : a * (131072 * q) ≤ a * (u * share + 65536) = rw (mul-add a (u * share) 65536, full, ones) (omega (arith, near.low)) in
      let down : a * (u * share + 65536) < a * (131072 * q + 131072) = rw (mul-add a (u * share) 65536, mul-add a (131072 * q) 131072, full, ones) (omega (arith, near.high)) in
      let below : 131072 * q ≤ u * share + 65536 = le_of_mul-le-mul_left up some in
      let above : u * share + 65536 < 131072 * q + 131072 = lt_of_mul-lt-mul_left a down in
      nearest_only (u * share) 131072 q (record { low = omega arith; high = omega arith })
