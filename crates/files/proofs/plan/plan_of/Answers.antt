-- `files::plan::plan_of` meets its contract: each number is its definition, and of a layout that is served none is large. Assumes nothing.
use Prim.Native.Nat.{ℕ, ◌+◌, ◌-◌, ◌*◌, ◌/◌, ◌≤◌}
use native.Mathlib.Nat.{mul-le-mul}
use native.Mathlib.Omega.{arith}
use mathlib.Core.Path.{◌≡◌, ap, ◌∙◌}
use mir.Facts.{Fits-below}
use Rattle.layout.specs.declared.Fields.{Fields}
use Rattle.layout.specs.declared.RasterLayout.{RasterLayout}
use Rattle.layout.specs.Layout.{scratch_length, completed}
use Rattle.layout.proofs.Accepted.{Accepted}
use Rattle.layout.proofs.Sizes.{encoded_side, plane_few}
use Rattle.tags.specs.Tags.{strips_per_plane}
use Rattle.files.specs.declared.plan.Plan.{Plan}
use Rattle.files.specs.File.{row_bytes, strips, outside, entry_count, bits_place, offsets_place, counts_place, resolutions_place, planes_place, file_length}
use Rattle.files.specs.Parts.{plan_of}
use Rattle.files.proofs.Asking.{scratch_is}
use Rattle.files.proofs.Sizes.{fields_accepted, strips-few, scratch_small, entries-few, outside-within}
use Rattle.files.proofs.plan.plan_of.Goals.{After-outside-strips_outside, Start}
use Rattle.files.proofs.plan.plan_of.Goals as goal

-- a plan of these numbers
abbrev plan_by : Fields → ℕ → ℕ → ℕ → ℕ → ℕ → ℕ → ℕ → Plan
plan_by f each row all entries bits outside scratch =
    let first = 14 + 12 * entries in
    let offsets = first + 2 * bits in
    let counts = offsets + 4 * outside in
    let resolutions = counts + 4 * outside in
    let planes = resolutions + 16 in
    record {
      rows = f.h;
      each = each;
      row = row;
      strips = all;
      entries = entries;
      bits_outside = bits;
      strips_outside = outside;
      bits = first;
      offsets = offsets;
      counts = counts;
      resolutions = resolutions;
      planes = planes;
      length = planes + scratch;
    }

same : (f : Fields) (each : ℕ) {row all entries bits out scratch : ℕ} → row ≡ row_bytes f → all ≡ strips f each → entries ≡ entry_count f → bits ≡ outside 2 f.ch → out ≡ outside 4 (strips f each) → scratch ≡ scratch_length f → plan_by f each row all entries bits out scratch ≡ plan_of f each
unfolding plan_of bits_place offsets_place counts_place resolutions_place planes_place file_length
same f each p q r s t u = rw (p, q, r, s, t, u)

known : (c : Start) → Accepted c.args.l.fields
known c =
    fields_accepted _ _ c.requires.fit

-- the strips are as many as the definition has
counted : (l : RasterLayout) (each : ℕ) → l ≡ completed l.fields → (l.fields.h + (each - 1)) / each * l.planes ≡ strips l.fields each
unfolding strips strips_per_plane
counted l each whole = ap (λ (m : RasterLayout). (l.fields.h + (each - 1)) / each * m.planes) whole

-- how many entries, and numbers outside them
entries_are : (c : After-outside-strips_outside) → c.entry_count-entries.result ≡ entry_count c.args.l.fields
unfolding entry_count strips strips_per_plane
entries_are c =
    c.entry_count-entries.ensures

strips_are : (c : After-outside-strips_outside) → let args = c.args in c.outside-strips_outside.result ≡ outside 4 (strips args.l.fields args.each)
unfolding strips strips_per_plane
strips_are c =
    c.outside-strips_outside.ensures ∙ ap (outside 4) (counted c.args.l c.args.each c.requires.whole)

-- none is large
few : (c : After-outside-strips_outside) → ((c.entry_count-entries.result ≤ 15) × (c.outside-bits_outside.result ≤ 4)) × (c.outside-strips_outside.result ≤ 65536)
unfolding strips strips_per_plane
few c =
    let known : Accepted c.args.l.fields = fields_accepted _ _ c.requires.fit in
    let args = c.args in (
      (omega (arith, entries_are c, entries-few args.l.fields), omega (arith, c.outside-bits_outside.ensures, outside-within 2 args.l.fields.ch, known)),
      omega (arith, strips_are c, outside-within 4 (strips args.l.fields args.each), strips-few _ _ c.requires.fit),
    )

-- the bytes of a row
row_is : (c : Start) → let l = c.args.l in l.encoded_width * l.plane_channels ≡ row_bytes l.fields
unfolding row_bytes
row_is c =
    ap (λ (l : RasterLayout). l.encoded_width * l.plane_channels) c.requires.whole

pub overflow_add-strips : goal.overflow_add-strips
unfolding row_bytes
overflow_add-strips c =
    omega (arith, known (goal.at.overflow_add-strips c).Start, c.requires.fit)

pub overflow_mul-strips : goal.overflow_mul-strips
unfolding row_bytes strips strips_per_plane
overflow_mul-strips c =
    omega (arith, counted c.args.l c.args.each c.requires.whole, strips-few _ _ c.requires.fit)

pub outside-bits_outside-requires : goal.outside-bits_outside-requires
unfolding row_bytes
outside-bits_outside-requires c =
    omega (arith, known (goal.at.outside-bits_outside-requires c).Start)

pub outside-strips_outside-requires : goal.outside-strips_outside-requires
unfolding row_bytes strips strips_per_plane
outside-strips_outside-requires c =
    omega (arith, counted c.args.l c.args.each c.requires.whole, strips-few _ _ c.requires.fit)

pub overflow_mul-bits : goal.overflow_mul-bits
unfolding row_bytes entry_count strips strips_per_plane
overflow_mul-bits c =
    omega (arith, few (goal.at.overflow_mul-bits c).After-outside-strips_outside)

pub overflow_add-bits : goal.overflow_add-bits
unfolding row_bytes entry_count strips strips_per_plane
overflow_add-bits c =
    omega (arith, few (goal.at.overflow_add-bits c).After-outside-strips_outside)

pub overflow_mul-offsets : goal.overflow_mul-offsets
unfolding row_bytes entry_count strips strips_per_plane
overflow_mul-offsets c =
    omega (arith, few (goal.at.overflow_mul-offsets c).After-outside-strips_outside)

pub overflow_add-offsets : goal.overflow_add-offsets
unfolding row_bytes entry_count strips strips_per_plane
overflow_add-offsets c =
    omega (arith, few (goal.at.overflow_add-offsets c).After-outside-strips_outside)

pub overflow_mul-counts : goal.overflow_mul-counts
unfolding row_bytes entry_count strips strips_per_plane
overflow_mul-counts c =
    omega (arith, few (goal.at.overflow_mul-counts c).After-outside-strips_outside)

pub overflow_add-counts : goal.overflow_add-counts
unfolding row_bytes entry_count strips strips_per_plane
overflow_add-counts c =
    omega (arith, few (goal.at.overflow_add-counts c).After-outside-strips_outside)

pub overflow_mul-resolutions : goal.overflow_mul-resolutions
unfolding row_bytes entry_count strips strips_per_plane
overflow_mul-resolutions c =
    omega (arith, few (goal.at.overflow_mul-resolutions c).After-outside-strips_outside)

pub overflow_add-resolutions : goal.overflow_add-resolutions
unfolding row_bytes entry_count strips strips_per_plane
overflow_add-resolutions c =
    omega (arith, few (goal.at.overflow_add-resolutions c).After-outside-strips_outside)

pub overflow_add-planes : goal.overflow_add-planes
unfolding row_bytes entry_count strips strips_per_plane
overflow_add-planes c =
    omega (arith, few (goal.at.overflow_add-planes c).After-outside-strips_outside)

pub overflow_mul-result : goal.overflow_mul-result
unfolding row_bytes
overflow_mul-result c =
    let a = known (goal.at.overflow_mul-result c).Start in rw (row_is (goal.at.overflow_mul-result c).Start) (Fits-below tt (mul-le-mul (encoded_side _ a) (plane_few _ a)))

pub overflow_add-result : goal.overflow_add-result
unfolding row_bytes entry_count strips strips_per_plane
overflow_add-result c =
    omega (arith, few (goal.at.overflow_add-result c).After-outside-strips_outside, scratch_is c.requires.whole, scratch_small _ _ c.requires.fit)

pub returns : goal.returns
unfolding row_bytes entry_count strips strips_per_plane
returns c =
    same c.args.l.fields c.args.each (row_is (goal.at.returns c).Start) (counted c.args.l c.args.each c.requires.whole) (entries_are (goal.at.returns c).After-outside-strips_outside) c.outside-bits_outside.ensures (strips_are (goal.at.returns c).After-outside-strips_outside) (scratch_is c.requires.whole)
