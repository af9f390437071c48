-- Layouts (rules 5.1 to 5.9): what a caller says, what follows from it, the faults in their order, and where a byte comes from.
-- Assumes nothing.
use Rattle.std.specs.Prelude.{ℕ, ◌+◌, ◌-◌, ◌*◌, ◌/◌, ◌%◌, ◌≤◌, ◌<◌, ◌≡◌, Bool, not, ◌&&◌, ◌||◌, List, [], ◌∷◌, ◌++◌, eqb, ltb, leb}
use Rattle.answer.specs.Outcome.{Fault, unless, unsupported, invalid, limit, pick, Sound, outcome, place_outcome, Answer, Done}
use Rattle.answer.specs.declared.ByteAt.{ByteAt}
use Rattle.layout.specs.declared.Fields.{Fields}
use Rattle.layout.specs.declared.RasterLayout.{RasterLayout}

-- what follows: bytes of a row of a plane, bytes at a place of a plane, planes, lengths, and colours of a palette
unfoldable pub encoded_width : Fields → ℕ
encoded_width f = (f.w - 1) / f.slots + 1

unfoldable pub plane_channels : Fields → ℕ
plane_channels f = pick f.palette 1 (pick f.separate f.bytes (f.ch * f.bytes))

unfoldable pub planes : Fields → ℕ
planes f = pick f.separate f.ch 1

unfoldable pub plane_length : Fields → ℕ
plane_length f = encoded_width f * f.h * plane_channels f

unfoldable pub scratch_length : Fields → ℕ
scratch_length f = plane_length f * planes f

unfoldable pub output_length : Fields → ℕ
output_length f = f.w * f.h * f.ch * f.bytes

-- colours of a palette whose indices stand so many in a byte
abbrev pub colours_of : ℕ → ℕ
colours_of slots = pick (eqb slots 8) 2 (pick (eqb slots 2) 16 256)

unfoldable pub colours : Fields → ℕ
colours f = colours_of f.slots

-- the full record
abbrev pub completed : Fields → RasterLayout
completed f =
    record {
      fields = f;
      encoded_width = encoded_width f;
      plane_channels = plane_channels f;
      planes = planes f;
      plane_len = plane_length f;
      scratch_len = scratch_length f;
      output_len = output_length f;
      colors = colours f;
    }

-- step 3's limits: of a width or a height, and of a picture's bytes
abbrev pub side_limit : ℕ
side_limit = 16384

abbrev pub byte_limit : ℕ
byte_limit = 1073741824

abbrev pub one_two_eight : ℕ → Bool
one_two_eight n = eqb n 1 || eqb n 2 || eqb n 8

-- step 2's rules (rule 5.4): the clauses of `valid` over what a caller says
unfoldable pub eight_rule : Fields → Bool
eight_rule f = not (eqb f.bytes 8) || (not f.white && not f.palette && eqb f.alpha 0 && eqb f.slots 1 && (eqb f.ch 1 || eqb f.ch 3))

unfoldable pub alpha_rule : Fields → Bool
alpha_rule f = eqb f.alpha 0 || (eqb f.bytes 1 && (eqb f.ch 2 || eqb f.ch 4) && not f.palette)

unfoldable pub palette_rule : Fields → Bool
palette_rule f = not f.palette || (eqb f.ch 3 && eqb f.bytes 1 && one_two_eight f.slots && not f.separate && eqb f.alpha 0)

unfoldable pub slots_rule : Fields → Bool
slots_rule f = f.palette || (eqb f.slots 1 || eqb f.slots 8 && eqb f.ch 1 && eqb f.bytes 1 && eqb f.alpha 0)

-- rule 5.3's three steps
abbrev pub served_faults : Fields → List Fault
served_faults f =
    unsupported (not (one_two_eight f.bytes))
    ∷ unsupported (eqb f.ch 0)
    ∷ unsupported (ltb 4 f.ch)
    ∷ unsupported (not (one_two_eight f.slots))
    ∷ unsupported (ltb 2 f.alpha)
    ∷ []

abbrev pub agreed_faults : Fields → List Fault
agreed_faults f =
    invalid (eqb f.w 0)
    ∷ invalid (eqb f.h 0)
    ∷ invalid (not (eight_rule f))
    ∷ invalid (not (alpha_rule f))
    ∷ invalid (not (palette_rule f))
    ∷ invalid (not (slots_rule f))
    ∷ []

abbrev pub size_faults : Fields → List Fault
size_faults f =
    limit (ltb side_limit f.w) ∷ limit (ltb side_limit f.h) ∷ limit (ltb byte_limit (output_length f)) ∷ []

abbrev pub layout_faults : Fields → List Fault
layout_faults f = served_faults f ++ (agreed_faults f ++ size_faults f)

-- whether a record says of itself what follows from the rest of it
unfoldable pub agreement : RasterLayout → RasterLayout → Bool
agreement l right =
    eqb l.encoded_width right.encoded_width
    && eqb l.plane_channels right.plane_channels
    && eqb l.planes right.planes
    && eqb l.plane_len right.plane_len
    && eqb l.scratch_len right.scratch_len
    && eqb l.output_len right.output_len
    && eqb l.colors right.colors

abbrev pub record_faults : RasterLayout → List Fault
record_faults l = layout_faults l.fields ++ (invalid (not (agreement l (completed l.fields))) ∷ [])

-- where byte k of the picture comes from, as upstream's `source_index`: in rows of whole bytes if a byte holds several samples, or a place of the map
abbrev pub packed : RasterLayout → Bool
packed l = l.fields.palette || eqb l.fields.slots 8

unfoldable pub packed_index : RasterLayout → ℕ → ℕ
packed_index l k = k / l.fields.ch / l.fields.w * l.encoded_width + k / l.fields.ch % l.fields.w / l.fields.slots

-- the two bytes of a little-endian word change places
unfoldable pub high_first : ℕ → Bool → ℕ → ℕ
high_first bytes le c = pick (eqb bytes 2 && le) (c - c % 2 + 1 - c % 2) c

-- else byte by byte, in one plane or in one for each channel
unfoldable pub plain_index : RasterLayout → ℕ → ℕ
plain_index l k =
    let stride = l.fields.ch * l.fields.bytes in
    let p = k / stride in
    let c = high_first l.fields.bytes l.fields.le (k % stride) in pick l.fields.separate (c / l.fields.bytes * l.plane_len + p * l.fields.bytes + c % l.fields.bytes) (p * stride + c)

abbrev pub source_index : RasterLayout → ℕ → ℕ
source_index l k = pick (packed l) (packed_index l k) (plain_index l k)

-- a record without a fault, and a byte of its picture
pub record Asked (l : RasterLayout) (k : ℕ) : Type 0 where
  pub sound : Sound (record_faults l)
  pub within : k < l.output_len

-- byte k of the picture as a pixel, and a byte of that pixel
abbrev pub pixel_of : RasterLayout → ℕ → ℕ
pixel_of l k = k / (l.fields.ch * l.fields.bytes)

abbrev pub byte_of : RasterLayout → ℕ → ℕ
byte_of l k = high_first l.fields.bytes l.fields.le (k % (l.fields.ch * l.fields.bytes))

-- the sample of the planes that channel c of pixel p is, and what it needs
abbrev pub sample_index : RasterLayout → ℕ → ℕ → ℕ
sample_index l p c = pick l.fields.separate (c * (l.plane_len / l.fields.bytes) + p) (p * l.fields.ch + c)

pub record SampleWithin (l : RasterLayout) (p c : ℕ) : Type 0 where
  pub some : 0 < l.fields.bytes
  pub limited : sample_index l p c ≤ byte_limit

abbrev pub index_faults : RasterLayout → ℕ → List Fault
index_faults l k = record_faults l ++ (invalid (leb l.output_len k) ∷ [])

-- what the functions promise
abbrev pub LayoutChecked : Fields → Answer RasterLayout → Type 0
LayoutChecked f answer = outcome answer ≡ unless (layout_faults f) (completed f)

abbrev pub RecordChecked : RasterLayout → Done → Type 0
RecordChecked l answer = outcome answer ≡ unless (record_faults l) tt

abbrev pub Indexed : RasterLayout → ℕ → Answer ByteAt → Type 0
Indexed l k answer = place_outcome answer ≡ unless (index_faults l k) (source_index l k)
