-- Rendered bytes, as upstream's `converted` has them, with section 6's rules for what that only calls: where a byte comes from is the layout's
-- `source_index`. And the order of `render`'s refusals. Assumes nothing.
use Rattle.std.specs.Prelude.{ℕ, ◌+◌, ◌-◌, ◌*◌, ◌/◌, ◌%◌, ◌^◌, min, Bool, not, ◌&&◌, ◌≡◌, ◌⊎◌, List, [], ◌∷◌, ◌++◌, length, get_or, eqb, ltb}
use Rattle.answer.specs.Outcome.{Fault, unless, pick, unsupported, truncated, output_too_small, Promise, xor, outcome, Done}
use Rattle.answer.specs.Table.{table}
use Rattle.words.specs.Word.{word_at}
use Rattle.layout.specs.declared.RasterLayout.{RasterLayout}
use Rattle.layout.specs.Layout.{record_faults, high_first, source_index}

-- bytes of a row of the picture, and of a row of a plane
abbrev pub row_bytes : RasterLayout → ℕ
row_bytes l = l.fields.w * (l.fields.ch * l.fields.bytes)

abbrev pub plane_row : RasterLayout → ℕ
plane_row l = l.encoded_width * l.plane_channels

-- white is 0: the byte inverted
abbrev pub flipped : Bool → ℕ → ℕ
flipped white v = pick white (255 - v) v

-- n / d to nearest, halves upward: n / d and a half, rounded down
abbrev pub nearest : ℕ → ℕ → ℕ
nearest n d = (2 * n + d) / (2 * d)

-- alpha kind 1: the colour u of a pixel that was multiplied by alpha a
unfoldable pub straightened : ℕ → ℕ → ℕ
straightened u a = pick (eqb a 0) 0 (min 255 (nearest (255 * u) a))

-- a colour byte v beside the alpha byte a
abbrev pub straight_colour : Bool → Bool → ℕ → ℕ → ℕ
straight_colour multiplied white v a = pick multiplied (straightened (flipped white v) a) (flipped white v)

-- which byte of a stored two-byte word is the more significant one
abbrev pub high_byte : Bool → ℕ
high_byte le = pick le 1 0

-- the widths that are rendered and written
abbrev pub OneOrTwo : ℕ → Type 0
OneOrTwo bytes = (bytes ≡ 1) ⊎ (bytes ≡ 2)

-- a word's bytes, turned if `le`
abbrev pub Turned : ℕ → List ℕ → Bool → List ℕ → Type 0
Turned bytes stored le word = word ≡ table bytes (λ b. get_or stored (pick le (bytes - 1 - b) b) 0)

-- the bytes of a word at a place, turned where the stored one is little-endian
abbrev pub WordAt : List ℕ → ℕ → ℕ → Bool → List ℕ → Type 0
WordAt s at bytes le word = word ≡ table bytes (λ b. get_or s (at + high_first bytes le b) 0)

-- the byte of the planes that byte k of the picture comes from
abbrev pub source : RasterLayout → List ℕ → ℕ → ℕ
source l raw k = get_or raw (source_index l k) 0

-- by how many bits the index at a slot of a byte is shifted: high bit first, high nibble first
abbrev pub slot_shift : ℕ → ℕ → ℕ
slot_shift slots slot = pick (eqb slots 8) (7 - slot) (pick (eqb slots 2) ((1 - slot) * 4) 0)

-- the index that byte v holds for column x, and the more significant byte of a colour's entry: reds, then greens, then blues
abbrev pub palette_index : RasterLayout → ℕ → ℕ → ℕ
palette_index l x v = v / 2 ^ slot_shift l.fields.slots (x % l.fields.slots) % l.colors

abbrev pub map_byte : RasterLayout → List ℕ → ℕ → ℕ → ℕ
map_byte l file c index = word_at file (l.fields.map + 2 * (c * l.colors + index)) 2 l.fields.le / 256

-- the byte for column x of a bilevel picture, whose bits stand in v
abbrev pub bilevel_byte : Bool → ℕ → ℕ → ℕ
bilevel_byte white x v = pick (xor (eqb (v / 2 ^ (7 - x % 8) % 2) 0) white) 0 255

-- byte k is a pixel's alpha
abbrev pub last_channel : RasterLayout → ℕ → Bool
last_channel l k = eqb (k % l.fields.ch) (l.fields.ch - 1)

-- a byte that is neither an index nor bits
unfoldable pub plain_byte : RasterLayout → List ℕ → ℕ → ℕ
plain_byte l raw k =
    pick (not (eqb l.fields.alpha 0) && not (last_channel l k)) (straight_colour (eqb l.fields.alpha 1) l.fields.white (source l raw k) (source l raw (k - k % l.fields.ch + l.fields.ch - 1)))
    (flipped (l.fields.white && eqb l.fields.alpha 0) (source l raw k))

unfoldable pub converted : RasterLayout → List ℕ → List ℕ → ℕ → ℕ
converted l file raw k =
    pick l.fields.palette (map_byte l file (k % 3) (palette_index l (k / 3 % l.fields.w) (source l raw k)))
    (pick (eqb l.fields.slots 8) (bilevel_byte l.fields.white (k % l.fields.w) (source l raw k)) (plain_byte l raw k))

-- rule 6.7's order, of a file part, planes and a picture so long
abbrev pub draw_faults : RasterLayout → ℕ → ℕ → ℕ → List Fault
draw_faults l file raw out =
    unsupported (eqb l.fields.bytes 8)
    ∷ truncated (l.fields.palette && ltb file (l.fields.map + 6 * l.colors))
    ∷ truncated (ltb raw l.scratch_len)
    ∷ output_too_small (ltb out l.output_len)
    ∷ []

abbrev pub render_faults : RasterLayout → List ℕ → List ℕ → List ℕ → List Fault
render_faults l file raw old = record_faults l ++ draw_faults l (length file) (length raw) (length old)

abbrev pub Rendered : RasterLayout → List ℕ → List ℕ → List ℕ → Done → List ℕ → Type 0
Rendered l file raw old answer new =
    Promise (unless (render_faults l file raw old) tt) (table l.output_len (converted l file raw)) old (outcome answer) new
