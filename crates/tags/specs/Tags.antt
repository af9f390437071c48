-- The used tags (rules 14.7 to 14.10): of each its values and its contradictions with lower tags, and what they say together. Assumes nothing.
use Rattle.std.specs.Prelude.{ℕ, ◌+◌, ◌-◌, ◌*◌, ◌/◌, ◌≡◌, Bool, true, false, not, ◌&&◌, ◌||◌, List, [], ◌∷◌, ◌++◌, length, eqb, ltb, leb}
use Rattle.answer.specs.Outcome.{Fault, unless, unsupported, invalid, pick, outcome, Answer}
use Rattle.laws.specs.Turns.{every}
use Rattle.layout.specs.declared.Fields.{Fields}
use Rattle.entries.specs.declared.Directory.{Directory}
use Rattle.entries.specs.declared.Field.{Field}
use Rattle.entries.specs.Entries.{directory, open_faults, field_of, value_of, field_faults}
use Rattle.tags.specs.declared.shape.Shape.{Shape}
use Rattle.tags.specs.declared.split.Split.{Split}
use Rattle.tags.specs.declared.extras.Extras.{Extras}
use Rattle.tags.specs.declared.Tags.{Tags}

-- a field must be there or has a default; has SHORTs alone or LONGs too; one value or some
abbrev pub required : Bool
required = true

abbrev pub optional : Bool
optional = false

abbrev pub longs : Bool
longs = true

abbrev pub shorts : Bool
shorts = false

abbrev pub several : Bool
several = true

abbrev pub one : Bool
one = false

-- the used tags, in three groups, with their defaults (0 where there is none, or where a missing field says 0; rows per strip 2^32 − 1, all rows)
unfoldable pub shape_of : List ℕ → Directory → Shape
shape_of file d =
    record {
      width = field_of file d 256 0;
      height = field_of file d 257 0;
      bits = field_of file d 258 1;
      compression = field_of file d 259 1;
      photometric = field_of file d 262 0;
    }

unfoldable pub split_of : List ℕ → Directory → Split
split_of file d =
    record {
      offsets = field_of file d 273 0;
      samples = field_of file d 277 1;
      rows = field_of file d 278 4294967295;
      counts = field_of file d 279 0;
      planar = field_of file d 284 1;
    }

unfoldable pub extras_of : List ℕ → Directory → Extras
extras_of file d =
    record { predictor = field_of file d 317 1; map = field_of file d 320 0; extra = field_of file d 338 0 }

-- 256 to 262. The bits of a sample are the first value of 258
unfoldable pub depth_of : List ℕ → Bool → Field → ℕ
depth_of file le bits = pick bits.there (value_of file le bits 0) bits.value

abbrev pub all_equal : List ℕ → Bool → Field → Bool
all_equal file le bits = every bits.count (λ j. eqb (value_of file le bits j) (value_of file le bits 0))

abbrev pub served_depth : ℕ → Bool
served_depth depth = eqb depth 1 || eqb depth 4 || eqb depth 8 || eqb depth 16

unfoldable pub bits_faults : List ℕ → Bool → Field → List Fault
bits_faults file le f =
    field_faults (length file) optional shorts several f
    ++ (unsupported (f.there && not (all_equal file le f)) ∷ unsupported (not (served_depth (depth_of file le f))) ∷ [])

-- none, or PackBits
abbrev pub PACKBITS : ℕ
PACKBITS = 32773

abbrev pub served_compression : ℕ → Bool
served_compression compression = eqb compression 1 || eqb compression PACKBITS

unfoldable pub shape_faults : List ℕ → Bool → Shape → List Fault
shape_faults file le s =
    let size = length file in
    field_faults size required longs one s.width
    ++ (field_faults size required longs one s.height
    ++ (bits_faults file le s.bits
    ++ (field_faults size optional shorts one s.compression
    ++ (unsupported (not (served_compression s.compression.value))
    ∷ (field_faults size required shorts one s.photometric ++ (unsupported (ltb 3 s.photometric.value) ∷ []))))))

-- 273 to 284. The samples that 262 has, and one more with an extra sample; the strips of a plane, and of all
abbrev pub samples_of : ℕ → Bool → ℕ
samples_of photometric extra = pick (eqb photometric 2) 3 1 + pick extra 1 0

unfoldable pub strips_per_plane : ℕ → ℕ → ℕ
strips_per_plane rows each = (rows + (each - 1)) / each

unfoldable pub strips_of : ℕ → Split → ℕ
strips_of rows t = strips_per_plane rows t.rows.value * pick (eqb t.planar.value 2) t.samples.value 1

unfoldable pub samples_faults : ℕ → Shape → Field → List Fault
samples_faults size s f =
    let has = samples_of s.photometric.value in
    field_faults size optional shorts one f
    ++ (invalid (not (eqb f.value s.bits.count))
    ∷ invalid (not (eqb f.value (has false) || eqb f.value (has true)))
    ∷ [])

unfoldable pub planar_faults : ℕ → Shape → Split → List Fault
planar_faults size s t =
    field_faults size optional shorts one t.planar
    ++ (unsupported (not (eqb t.planar.value 1 || eqb t.planar.value 2))
    ∷ invalid (not (eqb t.offsets.count (strips_of s.height.value t)))
    ∷ [])

unfoldable pub split_faults : ℕ → Shape → Split → List Fault
split_faults size s t =
    field_faults size required longs several t.offsets
    ++ (samples_faults size s t.samples
    ++ (field_faults size optional longs one t.rows
    ++ (invalid (eqb t.rows.value 0)
    ∷ (field_faults size required longs several t.counts
    ++ (invalid (not (eqb t.counts.count t.offsets.count)) ∷ planar_faults size s t)))))

-- 317 to 338
unfoldable pub predictor_faults : ℕ → ℕ → Field → List Fault
predictor_faults size depth f =
    field_faults size optional shorts one f
    ++ (unsupported (not (eqb f.value 1 || eqb f.value 2 && leb 8 depth)) ∷ [])

-- 3 × 2^depth
abbrev pub map_values : ℕ → ℕ
map_values depth = pick (eqb depth 1) 6 (pick (eqb depth 4) 48 (pick (eqb depth 8) 768 196608))

abbrev pub is_palette : Shape → Bool
is_palette s = eqb s.photometric.value 3

unfoldable pub map_faults : ℕ → Shape → ℕ → Field → List Fault
map_faults size s depth f =
    pick (is_palette s)
    (field_faults size required shorts several f ++ (invalid (not (eqb f.count (map_values depth))) ∷ []))
    []

-- the extra sample is there or is not
unfoldable pub extra_faults : ℕ → Shape → Split → Field → List Fault
extra_faults size s t f =
    field_faults size optional shorts one f
    ++ (unsupported (f.there && not (eqb f.value 1 || eqb f.value 2))
    ∷ invalid (not (eqb t.samples.value (samples_of s.photometric.value f.there)))
    ∷ [])

unfoldable pub extras_faults : ℕ → Shape → Split → ℕ → Extras → List Fault
extras_faults size s t depth x =
    predictor_faults size depth x.predictor ++ (map_faults size s depth x.map ++ extra_faults size s t x.extra)

-- what the tags say of the layout: samples of 16 bits have two bytes, others one; eight bits or two halves share a byte
abbrev pub sample_bytes : ℕ → ℕ
sample_bytes depth = pick (eqb depth 16) 2 1

abbrev pub samples_in_byte : ℕ → ℕ
samples_in_byte depth = pick (eqb depth 1) 8 (pick (eqb depth 4) 2 1)

unfoldable pub fields_by : Bool → Shape → Split → ℕ → Extras → Fields
fields_by le s t depth x =
    record {
      w = s.width.value;
      h = s.height.value;
      ch = pick (is_palette s) 3 t.samples.value;
      bytes = sample_bytes depth;
      slots = samples_in_byte depth;
      palette = is_palette s;
      separate = eqb t.planar.value 2;
      le = le;
      white = eqb s.photometric.value 0;
      alpha = x.extra.value;
      map = pick (is_palette s) x.map.place 0;
    }

-- and of all
unfoldable pub tags_by : Bool → Shape → Split → ℕ → Extras → Tags
tags_by le s t depth x =
    record {
      fields = fields_by le s t depth x;
      predictor = x.predictor.value;
      compression = s.compression.value;
      rows = s.height.value;
      each = t.rows.value;
      offsets = t.offsets;
      counts = t.counts;
    }

-- the bits of a sample of a directory, and all that its tags say
abbrev pub depth : List ℕ → Directory → ℕ
depth file d = depth_of file d.le (shape_of file d).bits

abbrev pub tags_of : List ℕ → Directory → Tags
tags_of file d = tags_by d.le (shape_of file d) (split_of file d) (depth file d) (extras_of file d)

-- the used tags' faults, ascending
abbrev pub later_faults : List ℕ → Directory → List Fault
later_faults file d =
    split_faults (length file) (shape_of file d) (split_of file d)
    ++ extras_faults (length file) (shape_of file d) (split_of file d) (depth file d) (extras_of file d)

unfoldable pub said_faults : List ℕ → Directory → List Fault
said_faults file d = shape_faults file d.le (shape_of file d) ++ later_faults file d

abbrev pub tag_faults : List ℕ → ℕ → List Fault
tag_faults file page = open_faults file page ++ said_faults file (directory file page)

abbrev pub TagsRead : List ℕ → ℕ → Answer Tags → Type 0
TagsRead file page answer = outcome answer ≡ unless (tag_faults file page) (tags_of file (directory file page))
