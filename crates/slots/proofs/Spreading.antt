-- A byte's bits, each spread to a byte 0 or 255, are a bilevel row's bytes. Assumes nothing.
use Prim.Native.Nat.{ℕ, zero, suc, ◌+◌, ◌-◌, ◌*◌, ◌/◌, ◌%◌, ◌^◌, ◌≤◌, ◌<◌}
use mathlib.Core.Path.{◌≡◌, refl, ap, ◌∙◌}
use mathlib.Core.Bool.{Bool, true, false}
use mathlib.Core.List.{List}
use native.Mathlib.Nat.{mod-lt}
use native.Mathlib.Omega.{arith}
use lib.ListN.{length, get_or}
use lib.Dec.{eqb}
use Rattle.answer.specs.Outcome.{pick, xor}
use Rattle.answer.specs.Table.{filled}
use Rattle.answer.proofs.Filling.{stores-filled}
use Rattle.pixels.specs.Render.{flipped}
use Rattle.slots.specs.Rows.{bilevel_at, Spread}
use Rattle.slots.proofs.Flipped.{flipped_bit}

lit : (d : ℕ) → d < 2 → 255 * d ≡ pick (xor (eqb d 0) false) 0 255
lit zero h = refl
lit (suc zero) h = refl
lit (suc (suc d)) h = absurd (omega arith)

unlit : (d : ℕ) → d < 2 → 255 * (1 - d) ≡ pick (xor (eqb d 0) true) 0 255
unlit zero h = refl
unlit (suc zero) h = refl
unlit (suc (suc d)) h = absurd (omega arith)

-- a bit's byte
level : (white : Bool) (k v : ℕ) → k < 8 → v < 256 → 255 * (flipped white v / 2 ^ k % 2) ≡ pick (xor (eqb (v / 2 ^ k % 2) 0) white) 0 255
level true k v h b = ap (λ (d : ℕ). 255 * d) (flipped_bit k v h b) ∙ unlit (v / 2 ^ k % 2) (mod-lt (v / 2 ^ k) (omega arith))
level false k v h b = lit (v / 2 ^ k % 2) (mod-lt (v / 2 ^ k) (omega arith))

-- byte i's bits, the first n of them, fill n columns more
pub spread_filled : (raw : List ℕ) (white : Bool) (old out new : List ℕ) (i n : ℕ) → n ≤ 8 → 8 * i + n ≤ length old → get_or raw i 0 < 256 → out ≡ filled (8 * i) (bilevel_at white raw) old → Spread (flipped white (get_or raw i 0)) n out (8 * i) new → new ≡ filled (8 * i + n) (bilevel_at white raw) old
unfolding bilevel_at
spread_filled raw white old out new i n h room byte s put =
    put ∙ stores-filled (bilevel_at white raw) _ old out (8 * i) n each room s
  where
    each : (p : ℕ) → p < n → 255 * (flipped white (get_or raw i 0) / 2 ^ (7 - p) % 2) ≡ bilevel_at white raw (8 * i + p)
    each p l =
        let at : (8 * i + p) / 8 ≡ i = omega arith in
        let in_byte : (8 * i + p) % 8 ≡ p = omega arith in
        rw (at, in_byte) (level white (7 - p) (get_or raw i 0) (omega arith) byte)
