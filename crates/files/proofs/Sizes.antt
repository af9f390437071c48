-- Sizes: what a layout that is served, and rows of a strip that are allowed, bound. Assumes nothing.
use Prim.Native.Nat.{ℕ, ◌+◌, ◌-◌, ◌*◌, ◌≤◌, ◌<◌}
use mathlib.Core.Path.{◌≡◌, sym, ap, ◌∙◌}
use mathlib.Core.Bool.{Bool, true, false}
use native.Mathlib.Nat.{mul-le-mul, mul-le-mul_left, mul-le-mul_right, mul-pos, mul_comm, mul_assoc, mul-one, le_trans}
use native.Mathlib.Omega.{arith}
use lib.Dec.{eqb}
use Rattle.answer.specs.Outcome.{pick}
use Rattle.laws.proofs.Groups.{positive}
use Rattle.laws.proofs.Joined.{sum-within}
use Rattle.layout.specs.declared.Fields.{Fields}
use Rattle.layout.specs.Layout.{byte_limit, encoded_width, plane_channels, planes, plane_length, scratch_length}
use Rattle.layout.proofs.Accepted.{Accepted, accepted}
use Rattle.layout.proofs.Sizes.{planes-few, scratch_within}
use Rattle.tags.specs.Tags.{strips_per_plane}
use Rattle.tags.proofs.Sizes.{few-strips}
use Rattle.directory.proofs.Theorems.{enough, strips-whole}
use Rattle.files.specs.File.{row_bytes, strips, strip_bytes, strip_start, strip_place, outside, in_entry, entry_count, bits_place, offsets_place, counts_place, resolutions_place, planes_place, file_length}
use Rattle.files.specs.Parts.{Fit}

pub outside-within : (width n : ℕ) → outside width n ≤ n
unfolding outside
outside-within width n = by (in_entry width n)
  where
    by : (b : Bool) → pick b 0 n ≤ n
    by true = omega arith
    by false = omega arith

pub entries-few : (f : Fields) → (14 ≤ entry_count f) × (entry_count f ≤ 15)
unfolding entry_count
entries-few f = by (eqb f.alpha 0)
  where
    by : (b : Bool) → (14 ≤ pick b 14 15) × (pick b 14 15 ≤ 15)
    by true = (omega arith, omega arith)
    by false = (omega arith, omega arith)

some-planes : (f : Fields) → Accepted f → 0 < planes f
unfolding planes
some-planes f a = by f.separate
  where
    by : (b : Bool) → 0 < pick b f.ch 1
    by true = a.some
    by false = omega arith

module _ (f : Fields) (each : ℕ) (fit : Fit f each) where
  pub fields_accepted : Accepted f
  fields_accepted = accepted f fit.sound

  per_few : strips_per_plane f.h each ≤ f.h
  unfolding strips_per_plane
  per_few = omega (arith, few-strips f.h each fit.some)

  pub strips-few : strips f each ≤ 65536
  unfolding strips
  strips-few = mul-le-mul (le_trans per_few fields_accepted.height) (planes-few f fields_accepted)

  pub scratch_small : scratch_length f ≤ byte_limit
  scratch_small = le_trans (scratch_within f fields_accepted) fields_accepted.size

  -- strips, one after another, fill the planes
  pub strips-all : strip_start f each (strips f each) ≡ scratch_length f
  unfolding strips strip_bytes row_bytes
  strips-all = strips-whole f each fit.some

  pub strip-inside : (k : ℕ) → k < strips f each → strip_start f each k + strip_bytes f each k ≤ scratch_length f
  strip-inside k h = rw (sym strips-all) (sum-within (strip_bytes f each) k (strips f each) h)

  -- all places are below 2^32
  pub front_small : (14 + 12 * 14 ≤ bits_place f) × (planes_place f each ≤ 1000000)
  unfolding bits_place offsets_place counts_place resolutions_place planes_place
  front_small =
      (omega (arith, entries-few f), omega (arith, entries-few f, outside-within 2 f.ch, fields_accepted.few, outside-within 4 (strips f each), strips-few))

  pub file_small : file_length f each < 4294967296
  unfolding file_length
  file_small = omega (arith, front_small, scratch_small)

  pub strip_small : (k : ℕ) → k < strips f each → (strip_place f each k + strip_bytes f each k ≤ file_length f each) × (strip_place f each k < 4294967296)
  unfolding file_length
  strip_small k h = (omega (arith, strip-inside k h), omega (arith, strip-inside k h, front_small, scratch_small))

  -- a strip is no longer than a plane
  rows_in : each * (encoded_width f * plane_channels f) ≤ plane_length f
  unfolding plane_length
  rows_in =
      let turned : f.h * (encoded_width f * plane_channels f) ≡ encoded_width f * f.h * plane_channels f =
      sym (mul_assoc f.h (encoded_width f) (plane_channels f)) ∙ ap (λ (m : ℕ). m * plane_channels f) (mul_comm f.h (encoded_width f)) in
      omega (arith, mul-le-mul_right (encoded_width f * plane_channels f) fit.within, turned)

  plane_in : plane_length f ≤ scratch_length f
  unfolding scratch_length
  plane_in = omega (arith, mul-le-mul_left (plane_length f) (some-planes f fields_accepted), mul-one (plane_length f))

  pub strip-limit : each * row_bytes f ≤ byte_limit
  unfolding row_bytes
  strip-limit = le_trans rows_in (le_trans plane_in scratch_small)

  -- there are strips
  pub strips-some : 0 < strips f each
  unfolding strips
  strips-some = mul-pos {m = strips_per_plane f.h each} {n = planes f} (positive each (strips_per_plane f.h each) {n = f.h - 1} (rw mul_comm (omega (arith, enough f.h each fit.some, fields_accepted.high)))) (some-planes f fields_accepted)
