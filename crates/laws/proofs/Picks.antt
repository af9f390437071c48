-- What `pick` and `xor` come to once a test is known. Assumes nothing.
use Prim.Native.Nat.{ℕ, ◌<◌}
use mathlib.Core.Path.{◌≡◌, refl}
use mathlib.Core.Bool.{Bool, true, false}
use Rattle.answer.specs.Outcome.{pick, xor}

pub picked : {b : Bool} (x y : ℕ) → b ≡ true → pick b x y ≡ x
picked x y e = rw e

pub not_picked : {b : Bool} (x y : ℕ) → b ≡ false → pick b x y ≡ y
not_picked x y e = rw e

-- what bounds both bounds the one that is picked
pub pick_below : (b : Bool) {x y n : ℕ} → x < n → y < n → pick b x y < n
pick_below true hx hy = hx
pick_below false hx hy = hy

-- the same either way
pub pick_same : {A : Type 0} (b : Bool) (x : A) → pick b x x ≡ x
pick_same true x = refl
pick_same false x = refl

pub xor_false : (b : Bool) → xor b false ≡ b
xor_false true = refl
xor_false false = refl
