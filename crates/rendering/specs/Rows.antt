-- What the private functions need of a picture's row and do with it: gathered from the planes, then finished. Assumes nothing.
use Rattle.std.specs.Prelude.{ℕ, ◌+◌, ◌-◌, ◌*◌, ◌/◌, ◌%◌, ◌≤◌, ◌<◌, ◌≡◌, Bool, true, false, not, ◌&&◌, List, length, get_or, eqb}
use Rattle.answer.specs.Outcome.{Sound, pick}
use Rattle.answer.specs.Table.{table, filled, stores}
use Rattle.layout.specs.declared.RasterLayout.{RasterLayout}
use Rattle.layout.specs.Layout.{byte_limit, record_faults, packed, high_first}
use Rattle.pixels.specs.Render.{row_bytes, flipped, OneOrTwo, straight_colour, source, plain_byte, converted}

-- past every refusal
pub record RenderServed (l : RasterLayout) (file raw out : List ℕ) : Type 0 where
  pub sound : Sound (record_faults l)
  pub bytes : eqb l.fields.bytes 8 ≡ false
  pub map : l.fields.palette ≡ true → l.fields.map + 6 * l.colors ≤ length file
  pub planes : l.scratch_len ≤ length raw
  pub room : l.output_len ≤ length out

-- row y, and room for it alone
pub record RowAsked (l : RasterLayout) (file raw : List ℕ) (y : ℕ) (out : List ℕ) : Type 0 where
  pub sound : Sound (record_faults l)
  pub bytes : eqb l.fields.bytes 8 ≡ false
  pub map : l.fields.palette ≡ true → l.fields.map + 6 * l.colors ≤ length file
  pub planes : l.scratch_len ≤ length raw
  pub row : y < l.fields.h
  pub room : length out ≡ row_bytes l

abbrev pub RowsRendered : RasterLayout → List ℕ → List ℕ → List ℕ → List ℕ → Type 0
RowsRendered l file raw old new = new ≡ filled l.output_len (converted l file raw) old

-- a palette has few colours
abbrev pub Colours : RasterLayout → Type 0
Colours l = l.colors ≤ 256

-- and a byte of the picture is a byte of the planes
pub record PlainRowAsked (l : RasterLayout) (raw : List ℕ) (y : ℕ) (out : List ℕ) : Type 0 where
  pub sound : Sound (record_faults l)
  pub bytes : eqb l.fields.bytes 8 ≡ false
  pub planes : l.scratch_len ≤ length raw
  pub plain : packed l ≡ false
  pub row : y < l.fields.h
  pub room : length out ≡ row_bytes l

abbrev pub RowRendered : RasterLayout → List ℕ → List ℕ → ℕ → List ℕ → List ℕ → Type 0
RowRendered l file raw y old new = new ≡ table (length old) (λ j. converted l file raw (y * row_bytes l + j))

abbrev pub PlainRendered : RasterLayout → List ℕ → ℕ → List ℕ → List ℕ → Type 0
PlainRendered l raw y old new = new ≡ table (length old) (λ j. plain_byte l raw (y * row_bytes l + j))

abbrev pub Gathered : RasterLayout → List ℕ → ℕ → List ℕ → List ℕ → Type 0
Gathered l raw y old new = new ≡ table (length old) (λ j. source l raw (y * row_bytes l + j))

-- byte j of a row once its bytes stand in the picture's order
abbrev pub finished_at : RasterLayout → List ℕ → ℕ → ℕ
finished_at l old j =
    pick (not (eqb l.fields.alpha 0) && not (eqb (j % l.fields.ch) (l.fields.ch - 1))) (straight_colour (eqb l.fields.alpha 1) l.fields.white (get_or old j 0) (get_or old (j - j % l.fields.ch + l.fields.ch - 1) 0))
    (flipped (l.fields.white && eqb l.fields.alpha 0) (get_or old j 0))

-- whole pixels, where there is alpha
pub record WholeRow (l : RasterLayout) (out : List ℕ) : Type 0 where
  pub some : 0 < l.fields.ch
  pub pixels : eqb l.fields.alpha 0 ≡ false → length out % l.fields.ch ≡ 0

abbrev pub Finished : RasterLayout → List ℕ → List ℕ → Type 0
Finished l old new = new ≡ table (length old) (finished_at l old)

-- byte c of a pixel whose channels stand in planes of their own, from a place of the first on
abbrev pub plane_place : ℕ → ℕ → ℕ → Bool → ℕ → ℕ
plane_place plane_length place bytes le c = high_first bytes le c / bytes * plane_length + (place + high_first bytes le c % bytes)

-- and byte j of such pixels
abbrev pub planes_at : List ℕ → ℕ → ℕ → ℕ → ℕ → Bool → ℕ → ℕ
planes_at raw plane_length from channels bytes le j = get_or raw (plane_place plane_length (from + j / (channels * bytes) * bytes) bytes le (j % (channels * bytes))) 0

pub record PlanesFit (raw : List ℕ) (plane_length from channels bytes : ℕ) (out : List ℕ) : Type 0 where
  pub some : 0 < channels
  pub few : channels ≤ 4
  pub width : OneOrTwo bytes
  pub pixels : length out % (channels * bytes) ≡ 0
  pub inside : from + length out / (channels * bytes) * bytes ≤ plane_length
  pub planes : channels * plane_length ≤ length raw
  pub limited : channels * plane_length ≤ byte_limit

pub record PixelFits (raw : List ℕ) (plane_length place channels bytes at : ℕ) (out : List ℕ) : Type 0 where
  pub inside : place + bytes ≤ plane_length
  pub planes : channels * plane_length ≤ length raw
  pub limited : channels * plane_length ≤ byte_limit
  pub room : at + channels * bytes ≤ length out

abbrev pub PixelGathered : List ℕ → ℕ → ℕ → ℕ → ℕ → Bool → ℕ → List ℕ → List ℕ → Type 0
PixelGathered raw plane_length place channels bytes le at old new = new ≡ stores old at (channels * bytes) (λ c. get_or raw (plane_place plane_length place bytes le c) 0)

abbrev pub PlanesInto : List ℕ → ℕ → ℕ → ℕ → ℕ → Bool → List ℕ → List ℕ → Type 0
PlanesInto raw plane_length from channels bytes le old new = new ≡ table (length old) (planes_at raw plane_length from channels bytes le)
