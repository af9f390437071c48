-- One row of a picture whose bytes of the planes hold several samples or palette indices: the row rendered, and a bilevel row written.
-- What stands in one byte is of pixels' definitions; here is which byte, and the order of the refusals (rules 8.3 to 8.5). Assumes nothing.
use Rattle.std.specs.Prelude.{ℕ, ◌+◌, ◌-◌, ◌*◌, ◌/◌, ◌%◌, ◌^◌, ◌≤◌, ◌<◌, ◌≡◌, Bool, true, not, List, [], ◌∷◌, length, get_or, eqb, ltb}
use Rattle.answer.specs.Outcome.{Fault, unless, pick, unsupported, invalid, truncated, output_too_small, Promise, outcome, Done}
use Rattle.answer.specs.Table.{table, filled, stores}
use Rattle.words.specs.Digits.{value}
use Rattle.words.specs.Word.{word_at}
use Rattle.layout.specs.Layout.{one_two_eight, colours_of}
use Rattle.pixels.specs.Render.{slot_shift, bilevel_byte}
use Rattle.pixels.specs.Planes.{bilevel_bit}

-- bytes that hold n bits
abbrev pub eighths : ℕ → ℕ
eighths n = (n + 7) / 8

-- byte x of a bilevel row: each of its bytes of the planes holds eight columns
unfoldable pub bilevel_at : Bool → List ℕ → ℕ → ℕ
bilevel_at white raw x = bilevel_byte white x (get_or raw (x / 8) 0)

abbrev pub bilevel_faults : List ℕ → List ℕ → List Fault
bilevel_faults raw old = truncated (ltb (length raw) (eighths (length old))) ∷ []

abbrev pub BilevelRow : List ℕ → Bool → List ℕ → Done → List ℕ → Type 0
BilevelRow raw white old answer new =
    Promise (unless (bilevel_faults raw old) tt) (table (length old) (bilevel_at white raw)) old (outcome answer) new

-- the palette index of column x
abbrev pub index_at : ℕ → List ℕ → ℕ → ℕ
index_at slots raw x = get_or raw (x / slots) 0 / 2 ^ slot_shift slots (x % slots) % colours_of slots

-- byte j of a palette row: colour j % 3 of column j / 3, the more significant byte of the map's entry
unfoldable pub palette_at : List ℕ → ℕ → ℕ → Bool → List ℕ → ℕ → ℕ
palette_at file map slots le raw j = word_at file (map + 2 * (j % 3 * colours_of slots + index_at slots raw (j / 3))) 2 le / 256

abbrev pub palette_faults : ℕ → ℕ → ℕ → ℕ → ℕ → List Fault
palette_faults file map slots raw out =
    unsupported (not (one_two_eight slots))
    ∷ invalid (not (eqb (out % 3) 0))
    ∷ truncated (ltb file (map + 6 * colours_of slots))
    ∷ truncated (ltb raw ((out / 3 + slots - 1) / slots))
    ∷ []

abbrev pub PaletteRow : List ℕ → ℕ → ℕ → Bool → List ℕ → List ℕ → Done → List ℕ → Type 0
PaletteRow file map slots le raw old answer new =
    Promise (unless (palette_faults (length file) map slots (length raw) (length old)) tt) (table (length old) (palette_at file map slots le raw)) old (outcome answer) new

-- the bit of column k, 0 past the row's end; the byte of the eight columns from k on, the first its highest bit; and byte b of the planes
abbrev pub bit_at : Bool → List ℕ → ℕ → ℕ
bit_at white picture k = pick (ltb k (length picture)) (bilevel_bit white (get_or picture k 0)) 0

abbrev pub byte_from : Bool → List ℕ → ℕ → ℕ
byte_from white picture k = value 2 8 (λ p. bit_at white picture (k + (7 - p)))

unfoldable pub bits_at : Bool → List ℕ → ℕ → ℕ
bits_at white picture b = byte_from white picture (8 * b)

abbrev pub bit_faults : List ℕ → List ℕ → List Fault
bit_faults picture old = output_too_small (ltb (length old) (eighths (length picture))) ∷ []

abbrev pub BitRow : List ℕ → Bool → List ℕ → Done → List ℕ → Type 0
BitRow picture white old answer new =
    Promise (unless (bit_faults picture old) tt) (table (eighths (length picture)) (bits_at white picture)) old (outcome answer) new

-- what the private functions do: the first n bits of t, from the highest on, each a byte 0 or 255
abbrev pub Spread : ℕ → ℕ → List ℕ → ℕ → List ℕ → Type 0
Spread t n old at new = new ≡ stores old at n (λ p. 255 * (t / 2 ^ (7 - p) % 2))

-- the columns whose bits fill whole bytes
abbrev pub SpreadInto : List ℕ → Bool → List ℕ → List ℕ → Type 0
SpreadInto raw white old new = new ≡ filled (8 * (length old / 8)) (bilevel_at white raw) old

abbrev pub BitsInto : List ℕ → Bool → List ℕ → List ℕ → Type 0
BitsInto picture white old new = new ≡ filled (length picture / 8) (bits_at white picture) old

abbrev pub IndexAt : ℕ → List ℕ → ℕ → ℕ → Type 0
IndexAt slots raw x index = (index ≡ index_at slots raw x) × (index < colours_of slots)

-- a pixel's three bytes, one from each third of the map
abbrev pub Painted : List ℕ → ℕ → ℕ → List ℕ → ℕ → List ℕ → Type 0
Painted file place step old at new = new ≡ stores old at 3 (λ c. get_or file (place + c * step) 0)

-- byte j of a palette row, where `first` is the place of the map's first more significant byte
abbrev pub painted_at : List ℕ → ℕ → ℕ → List ℕ → ℕ → ℕ
painted_at file first slots raw j = get_or file (first + 2 * index_at slots raw (j / 3) + j % 3 * (2 * colours_of slots)) 0

abbrev pub PaintedInto : List ℕ → ℕ → ℕ → List ℕ → List ℕ → List ℕ → Type 0
PaintedInto file first slots raw old new = new ≡ filled (length old) (painted_at file first slots raw) old

-- what a palette row needs
pub record PaintFits (file : List ℕ) (first slots : ℕ) (raw out : List ℕ) : Type 0 where
  pub served : one_two_eight slots ≡ true
  pub map : first + 6 * colours_of slots ≤ length file + 1
  pub whole : length out % 3 ≡ 0
  pub bytes : (length out / 3 + slots - 1) / slots ≤ length raw
