-- Sizes: within the limits no product wraps, and the planes of an accepted layout are never longer than its picture. Assumes nothing.
use Prim.Native.Nat.{ℕ, ◌-◌, ◌*◌, ◌≤◌}
use mathlib.Core.Path.{◌≡◌, refl}
use mathlib.Core.Bool.{Bool, true, false}
use native.Mathlib.Nat.{mul-le-mul, mul_comm, mul_assoc, div-le_self, mul-pos, le_trans}
use native.Mathlib.Omega.{arith}
use mir.Syntax.{w64}
use mir.Val.{Fits}
use mir.Facts.{Fits-below}
use Rattle.layout.specs.declared.Fields.{Fields}
use Rattle.layout.specs.Layout.{side_limit, encoded_width, plane_channels, planes, plane_length, scratch_length, output_length}
use Rattle.layout.proofs.Accepted.{Accepted, up_to_eight}

-- sides within the limit, and up to 32 bytes a pixel
module _ {a b : ℕ} (ha : a ≤ side_limit) (hb : b ≤ side_limit) where
  pub area_fits : Fits w64 (a * b)
  area_fits = Fits-below tt (mul-le-mul ha hb)

  pub part_fits : {n : ℕ} → n ≤ 32 → Fits w64 (a * b * n)
  part_fits hn = Fits-below tt (mul-le-mul (mul-le-mul ha hb) hn)

  pub whole-fits : {n m : ℕ} → n ≤ 32 → m ≤ 32 → Fits w64 (a * b * n * m)
  whole-fits hn hm = Fits-below tt (mul-le-mul (mul-le-mul (mul-le-mul ha hb) hn) hm)

module _ (f : Fields) (a : Accepted f) where
  pub encoded_within : encoded_width f ≤ f.w
  unfolding encoded_width
  encoded_within = omega (arith, div-le_self (f.w - 1) f.slots, a.wide)

  pub encoded_side : encoded_width f ≤ side_limit
  encoded_side = le_trans encoded_within a.width

  -- a pixel's bytes in all planes are at most its bytes in the picture, and few
  pub bytes-few : f.ch * f.bytes ≤ 32
  bytes-few = mul-le-mul a.few (up_to_eight a.bytes).1

  pixel : (p s : Bool) → f.palette ≡ p → f.separate ≡ s → (plane_channels f ≤ 32) × (plane_channels f * planes f ≤ f.ch * f.bytes)
  unfolding plane_channels planes
  pixel true s e d = let one = mul-pos a.some (up_to_eight a.bytes).0 in rw (e, (a.mapped e).0.1) (omega arith, omega arith)
  pixel false true e d = rw (e, d) (omega (arith, up_to_eight a.bytes), omega (arith, mul_comm f.ch f.bytes))
  pixel false false e d = rw (e, d) (bytes-few, omega arith)

  pub plane_few : plane_channels f ≤ 32
  plane_few = (pixel f.palette f.separate refl refl).0

  pub pixel_within : plane_channels f * planes f ≤ f.ch * f.bytes
  pixel_within = (pixel f.palette f.separate refl refl).1

  pub planes-few : planes f ≤ 4
  unfolding planes
  planes-few = by f.separate refl
    where
      by : (s : Bool) → f.separate ≡ s → planes f ≤ 4
      by true e = rw e a.few
      by false e = rw e (omega arith)

  -- scratch length never exceeds output length
  pub scratch_within : scratch_length f ≤ output_length f
  unfolding scratch_length plane_length output_length
  scratch_within =
      rw (mul_assoc (encoded_width f * f.h) (plane_channels f) (planes f), mul_assoc (f.w * f.h) f.ch f.bytes)
      (mul-le-mul (mul-le-mul encoded_within (omega arith)) pixel_within)
