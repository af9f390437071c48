-- A page: its layout, its strips and their faults (rules 14.10 and 14.11), and what the calls promise (14.12 to 14.15). Assumes nothing.
use Rattle.std.specs.Prelude.{ℕ, ◌+◌, ◌-◌, ◌*◌, ◌/◌, ◌%◌, ◌≡◌, not, ◌&&◌, List, [], ◌∷◌, ◌++◌, length, take, drop, eqb, ltb, leb, Ok, Err}
use Rattle.answer.specs.Outcome.{Outcome, done, refused, Fault, unless, invalid, truncated, output_too_small, number, pick, Promise, outcome, Answer, Done}
use Rattle.answer.specs.Table.{table}
use Rattle.answer.specs.declared.ByteAt.{ByteAt}
use Rattle.laws.specs.Turns.{faults_below}
use Rattle.layout.specs.Layout.{encoded_width, plane_channels, layout_faults, completed}
use Rattle.packbits.specs.Rows.{rows_faults}
use Rattle.entries.specs.declared.Directory.{Directory}
use Rattle.entries.specs.Entries.{directory, value_of}
use Rattle.tags.specs.declared.Tags.{Tags}
use Rattle.tags.specs.Tags.{PACKBITS, strips_per_plane, tags_of, tag_faults}
use Rattle.directory.specs.declared.strips.Strips.{Strips}
use Rattle.directory.specs.declared.Page.{Page}

-- everything but the strips: the tags' faults, and the layout's
unfoldable pub page_faults : List ℕ → ℕ → List Fault
page_faults file page = tag_faults file page ++ layout_faults (tags_of file (directory file page)).fields

-- the rows of strip k: fewer in the last of a plane
abbrev pub smaller : ℕ → ℕ → ℕ
smaller a b = pick (ltb a b) a b

unfoldable pub strip_rows : ℕ → ℕ → ℕ → ℕ
strip_rows rows each k = smaller each (rows - k % strips_per_plane rows each * each)

-- what strips are found by: 273 and 279, the rows of the page and of a strip, the bytes of a row, and whether rows are packed
unfoldable pub strips_by : Tags → Strips
strips_by t =
    record {
      le = t.fields.le;
      offsets = t.offsets;
      counts = t.counts;
      rows = t.rows;
      each = t.each;
      row = encoded_width t.fields * plane_channels t.fields;
      packbits = eqb t.compression PACKBITS;
    }

abbrev pub page_strips : List ℕ → Directory → Strips
page_strips file d = strips_by (tags_of file d)

abbrev pub strip_place : List ℕ → Strips → ℕ → ℕ
strip_place file s k = value_of file s.le s.offsets k

abbrev pub strip_length : List ℕ → Strips → ℕ → ℕ
strip_length file s k = value_of file s.le s.counts k

pub record Part : Type 0 where
  pub at : ℕ
  pub bytes : ℕ

abbrev pub strip_part : List ℕ → Strips → ℕ → Part
strip_part file s k = record { at = strip_place file s k; bytes = strip_length file s k }

-- the bytes of a part of the file
abbrev pub part_of : List ℕ → Part → List ℕ
part_of file p = take p.bytes (drop p.at file)

-- the faults of strip k: its length, which is free if its rows are packed, and room; then, if they are packed, theirs
abbrev pub part_faults : List ℕ → Strips → ℕ → List Fault
part_faults file s k =
    invalid (not s.packbits && not (eqb (strip_length file s k) (strip_rows s.rows s.each k * s.row)))
    ∷ truncated (ltb (length file) (strip_place file s k + strip_length file s k))
    ∷ []

abbrev pub packed_faults : List ℕ → Strips → ℕ → List Fault
packed_faults file s k = rows_faults (part_of file (strip_part file s k)) (strip_rows s.rows s.each k) s.row

unfoldable pub strip_faults : List ℕ → Strips → ℕ → List Fault
strip_faults file s k = part_faults file s k ++ pick s.packbits (packed_faults file s k) []

-- how many there are: 273's count, which 284's contradiction has held against the rows
abbrev pub strip_count : List ℕ → Directory → ℕ
strip_count file d = (page_strips file d).offsets.count

-- all strips; and one, if it is there
abbrev pub strips_faults : List ℕ → Strips → List Fault
strips_faults file s = faults_below s.offsets.count (strip_faults file s)

abbrev pub one_faults : List ℕ → Strips → ℕ → List Fault
one_faults file s k = invalid (leb s.offsets.count k) ∷ strip_faults file s k

-- a page and all its strips; and one strip of it
abbrev pub read_faults : List ℕ → ℕ → List Fault
read_faults file page = page_faults file page ++ strips_faults file (page_strips file (directory file page))

abbrev pub place_faults : List ℕ → ℕ → ℕ → List Fault
place_faults file page k = page_faults file page ++ one_faults file (page_strips file (directory file page)) k

-- the answers
abbrev pub page_of : List ℕ → Directory → Page
page_of file d =
    record {
      layout = completed (tags_of file d).fields;
      predictor = (tags_of file d).predictor;
      strips = strip_count file d;
      compression = (tags_of file d).compression;
    }

abbrev pub place_outcome : Answer (ByteAt × ℕ) → Outcome Part
place_outcome (Ok p) = done (record { at = p.0.0; bytes = p.1 })
place_outcome (Err k) = refused (number k)

-- the part of the file that an outcome says, nothing on a refusal
abbrev pub cut : List ℕ → Outcome Part → List ℕ
cut file (done p) = part_of file p
cut file (refused n) = []

-- number i of all strips' parts: places and lengths by turns
abbrev pub part_number : List ℕ → Strips → ℕ → ℕ
part_number file s i = pick (eqb (i % 2) 0) (strip_place file s (i / 2)) (strip_length file s (i / 2))

abbrev pub parts_faults : List ℕ → Strips → List ℕ → List Fault
parts_faults file s parts = strips_faults file s ++ (output_too_small (ltb (length parts) (2 * s.offsets.count)) ∷ [])

-- what the functions promise
abbrev pub DirectoryRead : List ℕ → ℕ → Answer Page → Type 0
DirectoryRead file page answer = outcome answer ≡ unless (read_faults file page) (page_of file (directory file page))

abbrev pub placed : List ℕ → ℕ → ℕ → Outcome Part
placed file page k = unless (place_faults file page k) (strip_part file (page_strips file (directory file page)) k)

abbrev pub StripPlaced : List ℕ → ℕ → ℕ → Answer (ByteAt × ℕ) → Type 0
StripPlaced file page k answer = place_outcome answer ≡ placed file page k

abbrev pub StripCut : List ℕ → ℕ → ℕ → List ℕ → Type 0
StripCut file page k part = part ≡ cut file (placed file page k)

abbrev pub parts_of : List ℕ → Strips → List ℕ
parts_of file s = table (2 * s.offsets.count) (part_number file s)

abbrev pub StripsPlaced : List ℕ → ℕ → List ℕ → Done → List ℕ → Type 0
StripsPlaced file page old answer new =
    let s = page_strips file (directory file page) in
    Promise (unless (page_faults file page ++ parts_faults file s old) tt) (parts_of file s) old (outcome answer) new
