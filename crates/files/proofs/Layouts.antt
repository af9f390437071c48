-- The layouts that are served, kind by kind, and that what their tags say is what they are. Assumes nothing.
use Prim.Native.Nat.{◌≤◌}
use mathlib.Core.Path.{◌≡◌, refl}
use mathlib.Core.Bool.{Bool, true, false, not, ◌||◌}
use mathlib.Core.Logic.{◌⊎◌, inl, inr, ⊎_elim}
use native.Mathlib.Omega.{arith}
use lib.Dec.{eqb}
use Rattle.laws.proofs.Says.{clash, equal, up, down, both, either}
use Rattle.layout.specs.declared.Fields.{Fields}
use Rattle.layout.proofs.Accepted.{Accepted}
use Rattle.tags.specs.Tags.{served_depth, samples_of, sample_bytes, samples_in_byte}
use Rattle.files.specs.File.{served, bits_of, photometric}

-- one channel, three, two with alpha, four with alpha
pub data Channels (f : Fields) : Type 0 where
  one : f.ch ≡ 1 → f.alpha ≡ 0 → Channels f
  three : f.ch ≡ 3 → f.alpha ≡ 0 → f.white ≡ false → Channels f
  two : f.ch ≡ 2 → f.alpha ≡ 2 → Channels f
  four : f.ch ≡ 4 → f.alpha ≡ 2 → f.white ≡ false → Channels f

-- samples of a bit, of a byte, of two
pub data Samples (f : Fields) : Type 0 where
  bit : f.slots ≡ 8 → f.bytes ≡ 1 → f.ch ≡ 1 → Samples f
  byte : f.slots ≡ 1 → f.bytes ≡ 1 → Samples f
  pair : f.slots ≡ 1 → f.bytes ≡ 2 → f.alpha ≡ 0 → Samples f

pub record Kind (f : Fields) : Type 0 where
  pub little : f.le ≡ true
  pub plain : f.palette ≡ false
  pub channels : Channels f
  pub samples : Samples f

module _ (f : Fields) (a : Accepted f) where
  no_alpha : (f.ch ≡ 1) ⊎ (f.ch ≡ 3) → f.alpha ≡ 0
  no_alpha odd = by (eqb f.alpha 0) refl
    where
      by : (b : Bool) → eqb f.alpha 0 ≡ b → f.alpha ≡ 0
      by true e = (equal f.alpha 0).tells e
      by false e =
          let even = (a.covered (λ z. absurd (clash ((equal f.alpha 0).told z) e))).0.1 in absurd (⊎_elim (λ p. ⊎_elim (λ q. omega arith) (λ q. omega arith) even) (λ p. ⊎_elim (λ q. omega arith) (λ q. omega arith) even) odd)

  pub kind_of : served f ≡ true → Kind f
  unfolding served
  kind_of e =
      let told = (both (both (both (up f.le) (down f.palette)) (either (equal f.bytes 1) (equal f.bytes 2))) (either (either (equal f.ch 1) (both (equal f.ch 3) (down f.white))) (both (equal f.alpha 2) (either (equal f.ch 2) (both (equal f.ch 4) (down f.white)))))).tells e in
      record { little = told.0.0.0; plain = told.0.0.1; channels = channels_of told.1; samples = samples_of_lem told.0.0.1 told.0.1 }
    where
      channels_of : ((f.ch ≡ 1) ⊎ ((f.ch ≡ 3) × (f.white ≡ false))) ⊎ ((f.alpha ≡ 2) × ((f.ch ≡ 2) ⊎ ((f.ch ≡ 4) × (f.white ≡ false)))) → Channels f
      channels_of (inl (inl c)) = one c (no_alpha (inl c))
      channels_of (inl (inr c)) = three c.0 (no_alpha (inr c.0)) c.1
      channels_of (inr c) = ⊎_elim (λ t. two t c.0) (λ t. four t.0 c.0 t.1) c.1

      wide : f.slots ≡ 1 → (f.bytes ≡ 1) ⊎ (f.bytes ≡ 2) → Samples f
      wide s (inl b) = byte s b
      wide s (inr b) = pair s b (by (eqb f.alpha 0) refl)
        where
          by : (x : Bool) → eqb f.alpha 0 ≡ x → f.alpha ≡ 0
          by true z = (equal f.alpha 0).tells z
          by false z = absurd (let one_byte = (a.covered (λ y. absurd (clash ((equal f.alpha 0).told y) z))).0.0 in omega (arith, one_byte, b))

      samples_of_lem : f.palette ≡ false → (f.bytes ≡ 1) ⊎ (f.bytes ≡ 2) → Samples f
      samples_of_lem p b = ⊎_elim (λ s. wide s b) (λ s. bit s.0.0.0 s.0.1 s.0.0.1) (a.shared p)

-- alpha is none, or of kind 2
pub alphas : {f : Fields} → Channels f → (f.alpha ≡ 0) ⊎ (f.alpha ≡ 2)
alphas (one c z) = inl z
alphas (three c z w) = inl z
alphas (two c z) = inr z
alphas (four c z w) = inr z

-- what the reader makes of the bits
pub bits_mean : (f : Fields) → Samples f → ((sample_bytes (bits_of f) ≡ f.bytes) × (samples_in_byte (bits_of f) ≡ f.slots)) × ((served_depth (bits_of f) ≡ true) × (bits_of f ≤ 16))
unfolding bits_of
bits_mean f (bit s b c) = rw (s, b) ((refl, refl), (refl, omega arith))
bits_mean f (byte s b) = rw (s, b) ((refl, refl), (refl, omega arith))
bits_mean f (pair s b z) = rw (s, b) ((refl, refl), (refl, omega arith))

-- and of the colours
pub record Coloured (f : Fields) : Type 0 where
  pub few : photometric f ≤ 2
  pub white : eqb (photometric f) 0 ≡ f.white
  pub has : samples_of (photometric f) (not (eqb f.alpha 0)) ≡ f.ch
  pub either : (eqb f.ch (samples_of (photometric f) false) || eqb f.ch (samples_of (photometric f) true)) ≡ true

pub coloured : (f : Fields) → Channels f → Coloured f
unfolding photometric
coloured f (one c z) = by f.white refl
  where
    by : (b : Bool) → f.white ≡ b → Coloured f
    by true w = record { few = rw (c, w) (omega arith); white = rw (c, w); has = rw (c, w, z); either = rw (c, w) }
    by false w = record { few = rw (c, w) (omega arith); white = rw (c, w); has = rw (c, w, z); either = rw (c, w) }
coloured f (two c z) = by f.white refl
  where
    by : (b : Bool) → f.white ≡ b → Coloured f
    by true w = record { few = rw (c, w) (omega arith); white = rw (c, w); has = rw (c, w, z); either = rw (c, w) }
    by false w = record { few = rw (c, w) (omega arith); white = rw (c, w); has = rw (c, w, z); either = rw (c, w) }
coloured f (three c z w) = record { few = rw c (omega arith); white = rw (c, w); has = rw (c, z); either = rw c }
coloured f (four c z w) = record { few = rw c (omega arith); white = rw (c, w); has = rw (c, z); either = rw c }
