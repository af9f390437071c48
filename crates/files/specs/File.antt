-- A written file (rules 15.1 to 15.6): its entries, its values, its strips, what it is served for, and what the calls promise. Assumes nothing.
use Rattle.std.specs.Prelude.{ℕ, ◌+◌, ◌*◌, ◌≡◌, Bool, not, ◌&&◌, ◌||◌, List, [], ◌∷◌, ◌++◌, length, take, drop, get_or, eqb, ltb, leb}
use Rattle.answer.specs.Outcome.{Fault, unless, unsupported, invalid, truncated, output_too_small, pick, Promise, outcome, Answer}
use Rattle.answer.specs.Table.{table}
use Rattle.laws.specs.Turns.{sum, end_to_end}
use Rattle.words.specs.Digits.{digit, value}
use Rattle.layout.specs.declared.Fields.{Fields}
use Rattle.layout.specs.declared.RasterLayout.{RasterLayout}
use Rattle.layout.specs.Layout.{encoded_width, plane_channels, planes, scratch_length, completed, record_faults}
use Rattle.entries.specs.Entries.{II, SHORT, LONG}
use Rattle.tags.specs.Tags.{strips_per_plane}
use Rattle.directory.specs.Page.{strip_rows}
use Rattle.directory.specs.declared.Page.{Page}

-- a number of so many bytes, the least significant first; and several
abbrev pub stored : ℕ → ℕ → List ℕ
stored width v = table width (λ p. digit 256 p v)

abbrev pub numbers : ℕ → ℕ → (ℕ → ℕ) → List ℕ
numbers width n v = end_to_end n (λ j. stored width (v j))

-- the strips: the bytes of a row, how many strips there are, and of each its bytes and where among the planes it begins
unfoldable pub row_bytes : Fields → ℕ
row_bytes f = encoded_width f * plane_channels f

unfoldable pub strips : Fields → ℕ → ℕ
strips f each = strips_per_plane f.h each * planes f

unfoldable pub strip_bytes : Fields → ℕ → ℕ → ℕ
strip_bytes f each k = strip_rows f.h each k * row_bytes f

abbrev pub strip_start : Fields → ℕ → ℕ → ℕ
strip_start f each k = sum k (strip_bytes f each)

-- n values of a width that take four bytes or fewer stand in their entry; how many of them stand outside
abbrev pub in_entry : ℕ → ℕ → Bool
in_entry width n = leb (width * n) 4

unfoldable pub outside : ℕ → ℕ → ℕ
outside width n = pick (in_entry width n) 0 n

-- where the values outside stand, in the order of their tags, and after them the planes
unfoldable pub entry_count : Fields → ℕ
entry_count f = pick (eqb f.alpha 0) 14 15

unfoldable pub bits_place : Fields → ℕ
bits_place f = 14 + 12 * entry_count f

unfoldable pub offsets_place : Fields → ℕ
offsets_place f = bits_place f + 2 * outside 2 f.ch

unfoldable pub counts_place : Fields → ℕ → ℕ
counts_place f each = offsets_place f + 4 * outside 4 (strips f each)

unfoldable pub resolutions_place : Fields → ℕ → ℕ
resolutions_place f each = counts_place f each + 4 * outside 4 (strips f each)

unfoldable pub planes_place : Fields → ℕ → ℕ
planes_place f each = resolutions_place f each + 16

abbrev pub strip_place : Fields → ℕ → ℕ → ℕ
strip_place f each k = planes_place f each + strip_start f each k

unfoldable pub file_length : Fields → ℕ → ℕ
file_length f each = planes_place f each + scratch_length f

-- an entry: its tag, its type, how many values it has, and its last four bytes as a LONG: a value, two SHORTs, or the values' place
pub record Entry : Type 0 where
  pub tag : ℕ
  pub kind : ℕ
  pub count : ℕ
  pub last : ℕ

abbrev pub RATIONAL : ℕ
RATIONAL = 5

abbrev pub one_short : ℕ → ℕ → Entry
one_short tag v = record { tag = tag; kind = SHORT; count = 1; last = v }

-- the bits of a sample, what the samples mean, planes together or apart
unfoldable pub bits_of : Fields → ℕ
bits_of f = pick (eqb f.slots 8) 1 (8 * f.bytes)

unfoldable pub photometric : Fields → ℕ
photometric f = pick (leb 3 f.ch) 2 (pick f.white 0 1)

unfoldable pub planar : Fields → ℕ
planar f = pick f.separate 2 1

-- the last four bytes of 258's entry: one SHORT or two, or where all stand
unfoldable pub bits_last : Fields → ℕ
bits_last f = pick (in_entry 2 f.ch) (value 65536 f.ch (λ j. bits_of f)) (bits_place f)

-- those of 273's and 279's: the one strip's place or length, or where those of all stand
unfoldable pub offsets_last : Fields → ℕ → ℕ
offsets_last f each = pick (in_entry 4 (strips f each)) (strip_place f each 0) (offsets_place f)

unfoldable pub counts_last : Fields → ℕ → ℕ
counts_last f each = pick (in_entry 4 (strips f each)) (strip_bytes f each 0) (counts_place f each)

-- the entries, ascending; without alpha the last, 338, is not written (`entry_count`)
abbrev pub entries : Fields → ℕ → List Entry
entries f each =
    one_short 256 f.w
    ∷ one_short 257 f.h
    ∷ record { tag = 258; kind = SHORT; count = f.ch; last = bits_last f }
    ∷ one_short 259 1
    ∷ one_short 262 (photometric f)
    ∷ record { tag = 273; kind = LONG; count = strips f each; last = offsets_last f each }
    ∷ one_short 277 f.ch
    ∷ record { tag = 278; kind = LONG; count = 1; last = each }
    ∷ record { tag = 279; kind = LONG; count = strips f each; last = counts_last f each }
    ∷ record { tag = 282; kind = RATIONAL; count = 1; last = resolutions_place f each }
    ∷ record { tag = 283; kind = RATIONAL; count = 1; last = resolutions_place f each + 8 }
    ∷ one_short 284 (planar f)
    ∷ one_short 296 1
    ∷ one_short 317 1
    ∷ one_short 338 2
    ∷ []

abbrev pub entry_of : Fields → ℕ → ℕ → Entry
entry_of f each i = get_or (entries f each) i (one_short 0 0)

abbrev pub entry_bytes : Entry → List ℕ
entry_bytes e = stored 2 e.tag ++ (stored 2 e.kind ++ (stored 4 e.count ++ stored 4 e.last))

-- the header, the directory, and the values outside its entries
abbrev pub header : List ℕ
header = stored 2 II ++ (stored 2 42 ++ stored 4 8)

abbrev pub directory : Fields → ℕ → List ℕ
directory f each =
    stored 2 (entry_count f) ++ (end_to_end (entry_count f) (λ i. entry_bytes (entry_of f each i)) ++ stored 4 0)

abbrev pub values : Fields → ℕ → List ℕ
values f each =
    numbers 2 (outside 2 f.ch) (λ j. bits_of f)
    ++ (numbers 4 (outside 4 (strips f each)) (strip_place f each)
    ++ (numbers 4 (outside 4 (strips f each)) (strip_bytes f each)
    ++ (numbers 4 2 (λ j. 1) ++ numbers 4 2 (λ j. 1))))

unfoldable pub front : Fields → ℕ → List ℕ
front f each = header ++ (directory f each ++ values f each)

-- the file
abbrev pub file_of : Fields → ℕ → List ℕ → List ℕ
file_of f each planes = front f each ++ take (scratch_length f) planes

-- the layouts of which files are written (rule 15.4)
unfoldable pub served : Fields → Bool
served f =
    f.le
    && not f.palette
    && (eqb f.bytes 1 || eqb f.bytes 2)
    && (eqb f.ch 1
    || eqb f.ch 3 && not f.white
    || eqb f.alpha 2 && (eqb f.ch 2 || eqb f.ch 4 && not f.white))

-- the faults, and what the functions promise
abbrev pub asked_faults : RasterLayout → ℕ → List Fault
asked_faults l each =
    record_faults l
    ++ (unsupported (not (served l.fields)) ∷ invalid (eqb each 0 || ltb l.fields.h each) ∷ [])

abbrev pub room_faults : RasterLayout → ℕ → List ℕ → List ℕ → List Fault
room_faults l each planes old =
    truncated (ltb (length planes) l.scratch_len) ∷ output_too_small (ltb (length old) (file_length l.fields each)) ∷ []

abbrev pub write_faults : RasterLayout → ℕ → List ℕ → List ℕ → List Fault
write_faults l each planes old = asked_faults l each ++ room_faults l each planes old

abbrev pub Measured : RasterLayout → ℕ → Answer ℕ → Type 0
Measured l each answer = outcome answer ≡ unless (asked_faults l each) (file_length l.fields each)

abbrev pub FileWritten : RasterLayout → ℕ → List ℕ → List ℕ → Answer ℕ → List ℕ → Type 0
FileWritten l each planes old answer new =
    Promise (unless (write_faults l each planes old) (file_length l.fields each)) (file_of l.fields each planes) old (outcome answer) new

-- the page that the reader finds in the file: the layout with a map of 0, no prediction, all strips, no compression
abbrev pub without_map : Fields → Fields
without_map f =
    record { w = f.w; h = f.h; ch = f.ch; bytes = f.bytes; slots = f.slots; palette = f.palette; separate = f.separate; le = f.le; white = f.white; alpha = f.alpha; map = 0 }

abbrev pub page_back : Fields → ℕ → Page
page_back f each = record { layout = completed (without_map f); predictor = 1; strips = strips f each; compression = 1 }

abbrev pub strip_back : Fields → ℕ → List ℕ → ℕ → List ℕ
strip_back f each planes k = take (strip_bytes f each k) (drop (strip_start f each k) planes)
