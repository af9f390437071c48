-- The laws of `mirror`, over the width: where it goes from a group's start, that it stays among whole groups, and that twice is nothing. Assumes nothing.
use mathlib.Core.Path.{◌≡◌, ◌∙◌}
use Prim.Native.Nat.{ℕ, ◌+◌, ◌-◌, ◌*◌, ◌/◌, ◌%◌, ◌<◌}
use native.Mathlib.Nat.{div-add-mod, mod-lt, mod-le, mul-mod_right}
use native.Mathlib.Omega.{arith}
use Rattle.swaps.specs.Swapped.{mirror}
use Rattle.laws.proofs.Groups.{group_room, into_group}

pub mirror-at : (width at p : ℕ) → at % width ≡ 0 → p < width → mirror width (at + p) ≡ at + (width - 1 - p)
mirror-at width at p ha l = rw (into_group width at p ha l) (omega arith)

-- a group's start
start : (width k : ℕ) → (k - k % width) % width ≡ 0
start width k = let from : k - k % width ≡ width * (k / width) = omega (arith, div-add-mod k width) in rw from (mul-mod_right width (k / width))

pub mirror_below : (width n k : ℕ) → 0 < width → n % width ≡ 0 → k < n → mirror width k < n
mirror_below width n k some hn l =
    omega (arith, group_room width n (k - k % width) hn (start width k) (omega arith), mod-lt k some)

pub mirror-mirror : (width k : ℕ) → 0 < width → mirror width (mirror width k) ≡ k
mirror-mirror width k some =
    let less = mod-lt k some in
    mirror-at width (k - k % width) (width - 1 - k % width) (start width k) (omega arith) ∙ omega (arith, mod-le k width)
