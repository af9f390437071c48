-- What the crate's own functions need and answer. Assumes nothing.
use Rattle.std.specs.Prelude.{ℕ, ◌+◌, ◌-◌, ◌≤◌, ◌<◌, ◌≡◌, Bool, true, false, List, length, get_or, ltb}
use Rattle.answer.specs.Outcome.{pick, Sound}
use Rattle.answer.specs.Table.{filled, stores}
use Rattle.layout.specs.declared.Fields.{Fields}
use Rattle.layout.specs.declared.RasterLayout.{RasterLayout}
use Rattle.layout.specs.Layout.{layout_faults, completed}
use Rattle.entries.specs.Entries.{SHORT, LONG}
use Rattle.files.specs.declared.plan.Plan.{Plan}
use Rattle.files.specs.declared.numbers.Kind.{Kind}
use Rattle.files.specs.declared.numbers.Kind.TheVariants.{Short, Long, Rational}
use Rattle.files.specs.declared.tables.Table.{Table}
use Rattle.files.specs.declared.tables.Table.TheVariants.{Places, Lengths}
use Rattle.files.specs.File.{RATIONAL, row_bytes, strips, outside, entry_count, bits_place, offsets_place, counts_place, resolutions_place, planes_place, file_length, served, Entry, entry_bytes, file_of}

-- a layout that is served, and rows of a strip
pub record Fit (f : Fields) (each : ℕ) : Type 0 where
  pub sound : Sound (layout_faults f)
  pub kind : served f ≡ true
  pub some : 0 < each
  pub within : each ≤ f.h

pub record Asked (l : RasterLayout) (each : ℕ) : Type 0 where
  pub whole : l ≡ completed l.fields
  pub fit : Fit l.fields each

-- where the parts of a file stand
unfoldable pub plan_of : Fields → ℕ → Plan
plan_of f each =
    record {
      rows = f.h;
      each = each;
      row = row_bytes f;
      strips = strips f each;
      entries = entry_count f;
      bits_outside = outside 2 f.ch;
      strips_outside = outside 4 (strips f each);
      bits = bits_place f;
      offsets = offsets_place f;
      counts = counts_place f each;
      resolutions = resolutions_place f each;
      planes = planes_place f each;
      length = file_length f each;
    }

-- a plan of a layout, and room for what stands before the planes
pub record Planned (f : Fields) (p : Plan) (out : List ℕ) : Type 0 where
  pub is : p ≡ plan_of f p.each
  pub fit : Fit f p.each
  pub room : p.planes ≤ length out

-- and planes, and room for all
pub record Ready (l : RasterLayout) (p : Plan) (planes out : List ℕ) : Type 0 where
  pub whole : l ≡ completed l.fields
  pub planned : Planned l.fields p out
  pub all : l.scratch_len ≤ length planes
  pub room : p.length ≤ length out

-- the rows that the next strip finds left of its plane: those past this one, or all of the next plane
abbrev pub left_after : Plan → ℕ → ℕ
left_after p left = pick (ltb p.each left) (left - p.each) p.rows

-- n bytes of a list from a place on, written; and an entry
pub record Wrote (all : List ℕ) (at n : ℕ) (old new : List ℕ) : Type 0 where
  pub stored : new ≡ stores old at n (λ q. get_or all (at + q) 0)

pub record EntryPut (e : Entry) (at : ℕ) (old new : List ℕ) : Type 0 where
  pub stored : new ≡ stores old at 12 (λ q. get_or (entry_bytes e) q 0)

abbrev pub FilePut : RasterLayout → Plan → List ℕ → List ℕ → List ℕ → Type 0
FilePut l p planes old new = new ≡ filled p.length (λ k. get_or (file_of l.fields p.each planes) k 0) old

-- the types of fields that are written, as numbers; and which of the strips' tables is that of places
abbrev pub type_of : Kind → ℕ
type_of Short = SHORT
type_of Long = LONG
type_of Rational = RATIONAL

abbrev pub is_places : Table → Bool
is_places Places = true
is_places Lengths = false
