-- What the private functions need and do: the checks, planes one after another, and rows where the planes are one. Assumes nothing.
use Rattle.std.specs.Prelude.{ℕ, ◌+◌, ◌*◌, ◌/◌, ◌%◌, ◌≤◌, ◌<◌, ◌≡◌, Bool, true, false, not, ◌&&◌, List, [], ◌∷◌, length, get_or, eqb}
use Rattle.answer.specs.Outcome.{Fault, Sound, pick, invalid}
use Rattle.answer.specs.Table.{table, filled}
use Rattle.layout.specs.declared.RasterLayout.{RasterLayout}
use Rattle.layout.specs.Layout.{record_faults, high_first}
use Rattle.pixels.specs.Render.{row_bytes, plane_row, flipped, OneOrTwo}
use Rattle.pixels.specs.Planes.{flips_channel, two_levels, written}
use Rattle.slots.specs.Rows.{bits_at}

-- a picture that is there, of a layout that can be
pub record LevelsAsked (l : RasterLayout) (picture : List ℕ) : Type 0 where
  pub sound : Sound (record_faults l)
  pub bare : l.fields.palette ≡ false
  pub all : l.output_len ≤ length picture

-- the last of rule 7.3's faults, the only one of a picture's bytes
abbrev pub level_faults : RasterLayout → List ℕ → List Fault
level_faults l picture = invalid (eqb l.fields.slots 8 && not (two_levels l.output_len picture)) ∷ []

-- past every refusal
pub record WriteServed (l : RasterLayout) (picture planes : List ℕ) : Type 0 where
  pub sound : Sound (record_faults l)
  pub bare : l.fields.palette ≡ false
  pub narrow : eqb l.fields.bytes 8 ≡ false
  pub all : l.output_len ≤ length picture
  pub room : l.scratch_len ≤ length planes

abbrev pub WrittenInto : RasterLayout → List ℕ → List ℕ → List ℕ → Type 0
WrittenInto l picture old new = new ≡ filled l.scratch_len (written l picture) old

-- channels stand in planes of their own
abbrev pub planar : RasterLayout → Bool
planar l = l.fields.separate && not (eqb l.fields.slots 8)

-- byte j of one channel of the pixels of a picture, whose first byte stands at `first`
abbrev pub channel_at : List ℕ → ℕ → ℕ → ℕ → Bool → ℕ → ℕ
channel_at picture first stride bytes le j = get_or picture (first + j / bytes * stride + high_first bytes le (j % bytes)) 0

pub record ChannelFits (picture : List ℕ) (first stride bytes : ℕ) (out : List ℕ) : Type 0 where
  pub inside : first + bytes ≤ stride
  pub words : length out % bytes ≡ 0
  pub pixels : length out / bytes * stride ≤ length picture
  pub limited : stride ≤ 32

abbrev pub ChannelInto : List ℕ → ℕ → ℕ → ℕ → Bool → List ℕ → List ℕ → Type 0
ChannelInto picture first stride bytes le old new = new ≡ table (length old) (channel_at picture first stride bytes le)

-- the plane of channel c
pub record PlaneOf (l : RasterLayout) (picture : List ℕ) (c : ℕ) (out : List ℕ) : Type 0 where
  pub sound : Sound (record_faults l)
  pub narrow : eqb l.fields.bytes 8 ≡ false
  pub all : l.output_len ≤ length picture
  pub apart : planar l ≡ true
  pub channel : c < l.fields.ch
  pub room : length out ≡ l.plane_len

abbrev pub PlaneWritten : RasterLayout → List ℕ → ℕ → List ℕ → List ℕ → Type 0
PlaneWritten l picture c old new = new ≡ table (length old) (λ j. written l picture (c * l.plane_len + j))

pub record Apart (l : RasterLayout) (picture planes : List ℕ) : Type 0 where
  pub served : WriteServed l picture planes
  pub apart : planar l ≡ true

-- pixels whose bytes stand together, flipped by white
abbrev pub RowFlipped : RasterLayout → List ℕ → List ℕ → Type 0
RowFlipped l old new = new ≡ table (length old) (λ j. flipped (flips_channel l (j % l.fields.ch)) (get_or old j 0))

-- a row of bytes or words
pub record PlainFits (l : RasterLayout) (row out : List ℕ) : Type 0 where
  pub width : OneOrTwo l.fields.bytes
  pub some : 0 < l.fields.ch
  pub words : length row % l.fields.bytes ≡ 0
  pub pixels : length row % l.fields.ch ≡ 0
  pub room : length out ≡ length row

abbrev pub PlainRowWritten : RasterLayout → List ℕ → List ℕ → List ℕ → Type 0
PlainRowWritten l row old new = new ≡ table (length old) (λ j. flipped (flips_channel l (j % l.fields.ch)) (get_or row (high_first l.fields.bytes l.fields.le j) 0))

-- a row of the picture, and room for its row of the planes
pub record RowGiven (l : RasterLayout) (row out : List ℕ) : Type 0 where
  pub sound : Sound (record_faults l)
  pub bare : l.fields.palette ≡ false
  pub narrow : eqb l.fields.bytes 8 ≡ false
  pub together : planar l ≡ false
  pub all : length row ≡ row_bytes l
  pub room : length out ≡ plane_row l

-- byte j of a row of the planes
abbrev pub row_at : RasterLayout → List ℕ → ℕ → ℕ
row_at l row j = pick (eqb l.fields.slots 8) (bits_at l.fields.white row j) (flipped (flips_channel l (j % l.fields.ch)) (get_or row (high_first l.fields.bytes l.fields.le j) 0))

abbrev pub RowWritten : RasterLayout → List ℕ → List ℕ → List ℕ → Type 0
RowWritten l row old new = new ≡ table (length old) (row_at l row)

pub record Together (l : RasterLayout) (picture planes : List ℕ) : Type 0 where
  pub served : WriteServed l picture planes
  pub together : planar l ≡ false
