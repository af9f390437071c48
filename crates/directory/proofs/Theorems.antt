-- A strip is the part of the file that its place says; where a page is accepted every strip of it is found, and the lengths of their rows, unpacked
-- where they are packed, add up to the layout's scratch length, so that all strips end to end are planes that `render` takes. Assumes nothing.
use Rattle.std.specs.Prelude.{Ok}
use Prim.Native.Nat.{◌%◌, ◌*◌, ◌+◌, ◌-◌, ◌<◌, ◌≤◌, suc, zero, ℕ}
use Rattle.answer.proofs.Promised.{done-sound, done-value, sound_back, sound-done, sound-front, sound-here, sound_more, sound_rest}
use Rattle.answer.specs.Outcome.{Sound, done, next, pick, unless, Answer}
use Rattle.answer.specs.declared.ByteAt.{ByteAt}
use Rattle.directory.proofs.Calls.{inside}
use Rattle.directory.specs.Page.{Part, StripCut, StripPlaced, cut, packed_faults, page_faults, page_of, page_strips, part_of, place_faults, place_outcome, placed, read_faults, smaller, strip_count, strip_faults, strip_length, strip_part, strip_place, strip_rows, strips_by}
use Rattle.directory.specs.declared.Page.{Page}
use Rattle.directory.specs.declared.strips.Strips.{Strips}
use Rattle.entries.specs.Entries.{directory, open_faults}
use Rattle.entries.specs.declared.Directory.{Directory}
use Rattle.laws.proofs.Faults.{answered}
use Rattle.laws.proofs.Joined.{length-joined}
use Rattle.laws.proofs.Turns.{sum_again, sum_same, sum_times, turn_sound}
use Rattle.laws.specs.Turns.{end_to_end, sum}
use Rattle.layout.proofs.Accepted.{Accepted, accepted, up_to_eight}
use Rattle.layout.specs.Layout.{encoded_width, plane_channels, plane_length, planes, scratch_length}
use Rattle.layout.specs.declared.Fields.{Fields}
use Rattle.packbits.proofs.Packets.{rows-filled}
use Rattle.packbits.specs.Rows.{packet_faults, row_faults, rows_bytes, rows_faults}
use Rattle.tags.proofs.Reading.{StripsSaid, strips_said}
use Rattle.tags.specs.Tags.{PACKBITS, fields_by, is_palette, shape_of, split_of, strips_of, strips_per_plane, tag_faults, tags_by, tags_of}
use borrow.Author.Tests.{eq-eqb, eqb-false, eqb-true, le-ltb, lt-leb, lt-ltb, ne_eqb, not-false}
use lib.Dec.{eqb}
use lib.ListN.{drop, length, length-drop, length-take, take}
use mathlib.Core.Bool.{Bool, false, true}
use mathlib.Core.List.{List}
use mathlib.Core.Path.{◌∙◌, ◌≡◌, ap, refl, sym}
use native.Mathlib.Decide.{dec_lt}
use native.Mathlib.Nat.{add-mul, div-add-mod', mod-lt, mul_assoc, mul_comm, mul-le-mul_right, mul-pos, one-mul, suc-mul, zero-mul}
use native.Mathlib.Omega.{arith}

-- what `strip` hands out is the part of the file at the place and of the length that `strip_place` says, and nothing where that refuses
pub strip-is : (file : List ℕ) (page k : ℕ) (r : Answer (ByteAt × ℕ)) (s : List ℕ) → StripPlaced file page k r → StripCut file page k s → s ≡ cut file (place_outcome r)
strip-is file page k r s p q = q ∙ ap (cut file) (sym p)

-- where a page is accepted every strip of it is found
module _ (file : List ℕ) (page : ℕ) (p : Page) (taken : unless (read_faults file page) (page_of file (directory file page)) ≡ done p) where
  abbrev d : Directory
  d = directory file page

  whole : Sound (read_faults file page)
  whole = done-sound (read_faults file page) (page_of file d) p taken

  pub page_is : p ≡ page_of file d
  page_is = sym (done-value (read_faults file page) (page_of file d) p taken)

  pub strip-sound : (k : ℕ) → k < p.strips → Sound (strip_faults file (page_strips file d) k)
  strip-sound k h = turn_sound (strip_count file d) (strip_faults file (page_strips file d)) k (rw page_is at h) (sound_back (page_faults file page) _ whole)

  pub every-strip : (k : ℕ) → k < p.strips → placed file page k ≡ done (strip_part file (page_strips file d) k)
  every-strip k h =
      let some : k < strip_count file d = rw page_is at h in
      sound-done (strip_part file (page_strips file d) k) (sound_more (sound-front (page_faults file page) _ whole) (next (lt-leb (strip_count file d) k some) (strip-sound k h)))

  packed-is : (page_strips file d).packbits ≡ eqb p.compression PACKBITS
  unfolding strips_by
  packed-is = rw page_is

-- what a strip without a fault has: the length of its rows, if they are not packed; else its rows
module _ (file : List ℕ) (s : Strips) (k : ℕ) (sound : Sound (strip_faults file s k)) where
  plain-length : s.packbits ≡ false → strip_length file s k ≡ strip_rows s.rows s.each k * s.row
  unfolding strip_faults
  plain-length e = eqb-true _ _ (not-false _ (rw e at (sound-here sound)))

  packed-rows : s.packbits ≡ true → Sound (packed_faults file s k)
  unfolding strip_faults
  packed-rows e = rw e at (sound_rest (sound_rest sound))

-- the rows of the strips of a plane: so far, the page's rows or as many as the strips would hold
rows_so_far : (rows each q : ℕ) → sum q (λ j. smaller each (rows - j * each)) ≡ rows - (rows - q * each)
rows_so_far rows each zero = rw (zero-mul each) (omega arith)
rows_so_far rows each (suc q) = rw (rows_so_far rows each q) (by (dec_lt each (rows - q * each)))
  where
    more : suc q * each ≡ q * each + each
    more = suc-mul q each

    by : Dec (each < rows - q * each) → rows - (rows - q * each) + smaller each (rows - q * each) ≡ rows - (rows - suc q * each)
    by (yes l) = rw (lt-ltb each (rows - q * each) l) (omega (arith, more))
    by (no g) = rw (le-ltb each (rows - q * each) (omega arith)) (omega (arith, more))

-- enough strips for all rows, and no more
pub enough : (rows each : ℕ) → 0 < each → rows ≤ strips_per_plane rows each * each
unfolding strips_per_plane
enough rows each h = let n = rows + (each - 1) in omega (arith, div-add-mod' n each, mod-lt n h)

pub most : (rows each : ℕ) → strips_per_plane rows each * each ≤ rows + (each - 1)
unfolding strips_per_plane
most rows each = let n = rows + (each - 1) in omega (arith, div-add-mod' n each)

plane_rows : (rows each m : ℕ) → 0 < each → sum (strips_per_plane rows each * m) (strip_rows rows each) ≡ rows * m
unfolding strip_rows
plane_rows rows each m h =
    let per = strips_per_plane rows each in
    sum_again per m (λ j. smaller each (rows - j * each)) ∙ ap (λ (n : ℕ). n * m) (rows_so_far rows each per ∙ omega (arith, enough rows each h))

planes_are : (file : List ℕ) (d : Directory) → Accepted (tags_of file d).fields → planes (tags_of file d).fields ≡ pick (eqb (split_of file d).planar.value 2) (split_of file d).samples.value 1
unfolding planes fields_by tags_by
planes_are file d a = by (is_palette (shape_of file d)) refl
  where
    by : (b : Bool) → is_palette (shape_of file d) ≡ b → planes (tags_of file d).fields ≡ pick (eqb (split_of file d).planar.value 2) (split_of file d).samples.value 1
    by true e = let together : eqb (split_of file d).planar.value 2 ≡ false = (a.mapped e).0.1 in rw together
    by false e = rw e

turned_round : (r m e c : ℕ) → r * m * (e * c) ≡ e * r * c * m
turned_round r m e c =
    mul_comm (r * m) (e * c)
    ∙ mul_assoc e c (r * m)
    ∙ sym (ap (λ (n : ℕ). n * m) (mul_assoc e r c) ∙ mul_assoc e (r * c) m ∙ ap (λ (n : ℕ). e * n) (ap (λ (n : ℕ). n * m) (mul_comm r c) ∙ mul_assoc c r m))

-- strips of right lengths, as many as the rows need, are the planes
pub strips-whole : (f : Fields) (each : ℕ) → 0 < each → sum (strips_per_plane f.h each * planes f) (λ k. strip_rows f.h each k * (encoded_width f * plane_channels f)) ≡ scratch_length f
unfolding scratch_length plane_length
strips-whole f each some =
    let row = encoded_width f * plane_channels f in
    sum_times (strips_per_plane f.h each * planes f) (strip_rows f.h each) row
    ∙ ap (λ (n : ℕ). n * row) (plane_rows f.h each (planes f) some)
    ∙ turned_round f.h (planes f) (encoded_width f) (plane_channels f)

strips_fill : (file : List ℕ) (d : Directory) → Accepted (tags_of file d).fields → StripsSaid (shape_of file d) (split_of file d) → let s = page_strips file d in sum s.offsets.count (λ k. strip_rows s.rows s.each k * s.row) ≡ scratch_length (tags_of file d).fields
unfolding strips_of strips_by tags_by fields_by
strips_fill file d a said =
    let f = (tags_of file d).fields in
    let each = (split_of file d).rows.value in
    ap (λ (n : ℕ). sum n (λ k. strip_rows f.h each k * (encoded_width f * plane_channels f))) (said.all ∙ ap (λ (m : ℕ). strips_per_plane f.h each * m) (sym (planes_are file d a)))
    ∙ strips-whole f each said.some

module _ (file : List ℕ) (page : ℕ) (sound : Sound (page_faults file page)) where
  page_said : let d = directory file page in StripsSaid (shape_of file d) (split_of file d)
  unfolding page_faults
  page_said = strips_said file (directory file page) (sound_back (open_faults file page) _ (sound-front (tag_faults file page) _ sound))

  page_layout : Accepted (tags_of file (directory file page)).fields
  unfolding page_faults
  page_layout = accepted (tags_of file (directory file page)).fields (sound_back (tag_faults file page) _ sound)

-- where a page is accepted, the rows of its strips are as long as its planes
module _ (file : List ℕ) (page : ℕ) (p : Page) (taken : unless (read_faults file page) (page_of file (directory file page)) ≡ done p) where
  abbrev strips : Strips
  strips = page_strips file (directory file page)

  pub rows_add_up : sum p.strips (λ k. strip_rows strips.rows strips.each k * strips.row) ≡ p.layout.scratch_len
  rows_add_up =
      let sound = sound-front (page_faults file page) _ (whole file page p taken) in
      rw (page_is file page p taken) (strips_fill file (directory file page) (page_layout file page sound) (page_said file page sound))

  -- and so are the strips end to end, if they are not packed
  pub lengths : (p.compression ≡ PACKBITS → ⊥) → sum p.strips (strip_length file strips) ≡ p.layout.scratch_len
  lengths plain =
      let not_packed = packed-is file page p taken ∙ ne_eqb p.compression PACKBITS plain in
      sum_same p.strips (strip_length file strips) (λ k. strip_rows strips.rows strips.each k * strips.row) (λ k h. plain-length file strips k (strip-sound file page p taken k h) not_packed)
      ∙ rows_add_up

  -- if they are, what `strip` hands out are its rows and nothing else
  pub strip_rows-sound : p.compression ≡ PACKBITS → (k : ℕ) (s : List ℕ) → k < p.strips → StripCut file page k s → Sound (rows_faults s (strip_rows strips.rows strips.each k) strips.row)
  strip_rows-sound packed k s h q =
      let s_is : s ≡ part_of file (strip_part file strips k) = q ∙ ap (cut file) (every-strip file page p taken k h) in
      rw s_is (packed-rows file strips k (strip-sound file page p taken k h) (packed-is file page p taken ∙ eq-eqb p.compression PACKBITS packed))

  -- and its rows, unpacked, are with those of all other strips as long as the planes
  pub unpacked_length : p.compression ≡ PACKBITS → (s : ℕ → List ℕ) → ((k : ℕ) → k < p.strips → StripCut file page k (s k)) → length (end_to_end p.strips (λ k. rows_bytes (s k) (strip_rows strips.rows strips.each k) strips.row)) ≡ p.layout.scratch_len
  unpacked_length packed s cuts =
      length-joined p.strips (λ k. rows_bytes (s k) (strip_rows strips.rows strips.each k) strips.row)
      ∙ sum_same p.strips _ (λ k. strip_rows strips.rows strips.each k * strips.row) (λ k h. rows-filled (s k) (strip_rows strips.rows strips.each k) strips.row (strip_rows-sound packed k (s k) h (cuts k h)))
      ∙ rows_add_up

-- a strip that is there has some rows, and its rows some bytes
rows_left : (rows each per q : ℕ) → 0 < rows → 0 < each → rows ≤ per * each → per * each ≤ rows + (each - 1) → (0 < per → q < per) → 0 < rows - q * each
rows_left rows each zero q high some enough most turn = absurd (omega (arith, zero-mul each))
rows_left rows each (suc per) q high some enough most turn =
    let below : q + 1 ≤ suc per = omega (arith, turn (omega arith)) in
    omega (arith, mul-le-mul_right each below, add-mul q 1 each, one-mul each)

some-rows : (rows each k : ℕ) → 0 < rows → 0 < each → 0 < strip_rows rows each k
unfolding strip_rows
some-rows rows each k high some =
    let per = strips_per_plane rows each in
    by (k % per) (rows_left rows each per (k % per) high some (enough rows each some) (most rows each) (λ h. mod-lt k h)) (dec_lt each (rows - k % per * each))
  where
    by : (q : ℕ) → 0 < rows - q * each → Dec (each < rows - q * each) → 0 < smaller each (rows - q * each)
    by q h (yes l) = rw (lt-ltb each (rows - q * each) l) some
    by q h (no g) = rw (le-ltb each (rows - q * each) (omega arith)) h

some_row : (f : Fields) → Accepted f → 0 < encoded_width f * plane_channels f
unfolding encoded_width plane_channels
some_row f a = mul-pos {m = encoded_width f} {n = plane_channels f} (omega arith) (by f.palette f.separate refl refl)
  where
    by : (b s : Bool) → f.palette ≡ b → f.separate ≡ s → 0 < plane_channels f
    by true s e d = rw e (omega arith)
    by false true e d = rw (e, d) (up_to_eight a.bytes).0
    by false false e d = rw (e, d) (mul-pos a.some (up_to_eight a.bytes).0)

some_size : (file : List ℕ) (d : Directory) (k : ℕ) → Accepted (tags_of file d).fields → StripsSaid (shape_of file d) (split_of file d) → let s = page_strips file d in (0 < strip_rows s.rows s.each k) × (0 < s.row)
unfolding strips_by tags_by fields_by
some_size file d k a said =
    (some-rows (shape_of file d).height.value (split_of file d).rows.value k a.high said.some, some_row (tags_of file d).fields a)

-- such rows are not read from nothing
rows-some : (packed : List ℕ) (rows n : ℕ) → 0 < rows → 0 < n → Sound (rows_faults packed rows n) → 0 < length packed
unfolding packet_faults
rows-some packed zero n some bytes sound = absurd (omega arith)
rows-some packed (suc rows) n some bytes sound =
    let packets = rw (ne_eqb n 0 (λ z. omega arith)) at (sound-front (row_faults packed n) _ sound) in
    let there : length packed ≡ 0 → ⊥ = eqb-false (length packed) 0 (sound-here packets) in omega (arith, there)

some_length : (file : List ℕ) (s : Strips) (k : ℕ) → 0 < strip_rows s.rows s.each k → 0 < s.row → Sound (strip_faults file s k) → 0 < strip_length file s k
some_length file s k rows row sound = by s.packbits refl
  where
    by : (b : Bool) → s.packbits ≡ b → 0 < strip_length file s k
    by true e =
        let some = rows-some (part_of file (strip_part file s k)) (strip_rows s.rows s.each k) s.row rows row (packed-rows file s k sound e) in
        omega (arith, some, length-take (strip_length file s k) (drop (strip_place file s k) file))
    by false e = rw (plain-length file s k sound e) (mul-pos rows row)

-- so a strip that is found is not empty: `strip` is empty exactly on refusal
pub strip-some : (file : List ℕ) (page k : ℕ) (r : Answer (ByteAt × ℕ)) (s : List ℕ) (at : ByteAt) (n : ℕ) → StripPlaced file page k r → StripCut file page k s → r ≡ Ok (at, n) → (length s ≡ n) × (0 < n)
strip-some file page k r s at n p q e =
    let d = directory file page in
    let strips = page_strips file d in
    let found = answered place_outcome (place_faults file page k) (strip_part file strips k) p e refl in
    let sound = sound-front (page_faults file page) _ found.1 in
    let size = some_size file d k (page_layout file page sound) (page_said file page sound) in
    let some = some_length file strips k size.0 size.1 (sound_rest (sound_back (page_faults file page) _ found.1)) in
    let n_is : n ≡ strip_length file strips k = ap (λ (x : Part). x.bytes) found.0 in
    let room = inside file page k r p at n e in
    let s_is : s ≡ take n (drop at.0 file) = strip-is file page k r s p q ∙ ap (λ (x : Answer (ByteAt × ℕ)). cut file (place_outcome x)) e in
    (rw s_is (simp (length-take, length-drop) (omega arith)), omega (arith, some, n_is))
