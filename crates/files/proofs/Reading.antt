-- What the reader finds in a written file: its header, its directory, and the fields of the entries. Assumes nothing.
use Prim.Native.Nat.{ℕ, zero, suc, ◌+◌, ◌-◌, ◌*◌, ◌≤◌, ◌<◌}
use mathlib.Core.Path.{◌≡◌, refl, sym, ap, ◌∙◌}
use mathlib.Core.Bool.{true}
use mathlib.Core.List.{List, ◌++◌}
use mathlib.Core.Logic.{◌⊎◌, inl, inr, ⊎_elim}
use native.Mathlib.Decide.{dec_lt}
use native.Mathlib.Omega.{arith}
use borrow.Author.Tests.{le-ltb, lt-ltb, eq-eqb, ltb-true}
use lib.ListN.{length, take, length-append, length-take}
use lib.Dec.{eqb, ltb, leb}
use Rattle.answer.specs.Outcome.{pick}
use Rattle.answer.proofs.Filling.{table_at}
use Rattle.laws.proofs.Turns.{every_one, every-same}
use Rattle.words.specs.Digits.{digit}
use Rattle.words.specs.Word.{word_at, modulus}
use Rattle.layout.specs.declared.Fields.{Fields}
use Rattle.layout.specs.Layout.{scratch_length}
use Rattle.entries.specs.declared.Directory.{Directory}
use Rattle.entries.specs.declared.Field.{Field}
use Rattle.entries.specs.Entries.{short, long, II, little, place, tag_at, directory_end, ascending, seek, entry_from, bytes_of, field_at, missing, field_from, field_of}
use Rattle.entries.specs.Entries as Entries
use Rattle.files.specs.File.{stored, entry_count, bits_place, offsets_place, counts_place, resolutions_place, planes_place, file_length, Entry, entry_of, entry_bytes, header, front, file_of}
use Rattle.files.specs.Parts.{Fit}
use Rattle.files.proofs.Holding.{Holds, holds_at, holds_first, holds_second, holds_in, holds_word, length-stored}
use Rattle.files.proofs.Places.{before, behind, length_front, holds_header, holds_count, holds_entry}
use Rattle.files.proofs.Sizes.{entries-few, front_small}

-- searches among tags that agree
seek-same : (t u : ℕ → ℕ) (tag i m : ℕ) → ((j : ℕ) → j < i + m → t j ≡ u j) → seek t tag i m ≡ seek u tag i m
seek-same t u tag i zero e = refl
seek-same t u tag i (suc m) e = rw (e i (omega arith), seek-same t u tag (i + 1) m (λ j h. e j (omega arith)))

-- the low half of a number is its first two bytes
pub low_half : {s : List ℕ} {at : ℕ} (v : ℕ) → Holds s at (stored 4 v) → Holds s at (stored 2 v)
low_half {s} {at} v h =
    record { bytes = λ q l. let few : q < 2 = rw length-stored at l in h.bytes q (rw (length-stored 4 v) (omega arith)) ∙ table_at 4 (λ p. digit 256 p v) q (omega arith) ∙ sym (table_at 2 (λ p. digit 256 p v) q few) }

-- the four numbers of an entry
module _ (e : Entry) where
  tag_in : Holds (entry_bytes e) 0 (stored 2 e.tag)
  tag_in = holds_first (stored 2 e.tag) _

  kind_in : Holds (entry_bytes e) 2 (stored 2 e.kind)
  kind_in = behind (stored 2 e.tag) _ {i = 0} refl (holds_first (stored 2 e.kind) _) (omega arith)

  count_in : Holds (entry_bytes e) 4 (stored 4 e.count)
  count_in = behind (stored 2 e.tag) _ {i = 2} refl (behind (stored 2 e.kind) _ {i = 0} refl (holds_first (stored 4 e.count) _) (omega arith)) (omega arith)

  last_in : Holds (entry_bytes e) 8 (stored 4 e.last)
  last_in =
      behind (stored 2 e.tag) _ {i = 6} refl (behind (stored 2 e.kind) _ {i = 4} refl (holds_second (stored 4 e.count) (stored 4 e.last) refl) (omega arith)) (omega arith)

-- an entry whose numbers fit into their bytes, and what its field says
pub record Small (e : Entry) : Type 0 where
  pub kind : e.kind < 65536
  pub count : e.count < 4294967296
  pub last : e.last < 4294967296

pub record Said (file : List ℕ) (i : ℕ) (g : Field) (e : Entry) : Type 0 where
  pub there : g.there ≡ true
  pub kind : g.kind ≡ e.kind
  pub count : g.count ≡ e.count
  pub place : g.place ≡ pick (leb (bytes_of e.kind e.count) 4) (8 + (2 + 12 * i) + 8) e.last
  pub value : g.value ≡ pick (eqb e.kind 3) (short file true (8 + (2 + 12 * i) + 8)) e.last
  pub held : Holds file (8 + (2 + 12 * i) + 8) (stored 4 e.last)

-- what a page's directory is
abbrev pub written : Fields → Directory
written f = record { le = true; at = 8; n = entry_count f }

module _ (f : Fields) (each : ℕ) (planes : List ℕ) (fit : Fit f each) (all : scratch_length f ≤ length planes) where
  abbrev file : List ℕ
  file = file_of f each planes

  abbrev d : Directory
  d = written f

  pub length_file : length (file_of f each planes) ≡ file_length f each
  unfolding file_length
  length_file =
      length-append (front f each) (take (scratch_length f) planes) ∙ omega (arith, length_front f each, length-take (scratch_length f) planes)

  pub in_file_lem : {at : ℕ} {part : List ℕ} → Holds (front f each) at part → at + length part ≤ planes_place f each → Holds (file_of f each planes) at part
  in_file_lem h room = before (front f each) (take (scratch_length f) planes) h (omega (arith, length_front f each))

  -- the directory ends before the planes begin
  pub before_planes : bits_place f ≤ planes_place f each
  unfolding offsets_place counts_place resolutions_place planes_place
  before_planes = omega arith

  entry_before : {i : ℕ} → i < entry_count f → 8 + (2 + 12 * i) + 12 ≤ planes_place f each
  unfolding bits_place
  entry_before h = omega (arith, before_planes)

  -- the header
  header-word : (width v : ℕ) {i : ℕ} → Holds header i (stored width v) → i + width ≤ 8 → v < modulus width → word_at file i width true ≡ v
  header-word width v {i} h room small =
      holds_word width v (in_file_lem (holds_at (omega arith) (holds_in {at = 0} {i = i} (holds_header f each) h (omega (arith, length-stored width v)))) (omega (arith, length-stored width v, front_small f each fit, before_planes))) small

  pub mark : short file true 0 ≡ II
  mark = header-word 2 II (holds_first (stored 2 II) (stored 2 42 ++ stored 4 8)) (omega arith) (omega arith)

  pub is-little : little file ≡ true
  is-little = rw mark

  pub version : short file true 2 ≡ 42
  version =
      header-word 2 42 (behind (stored 2 II) (stored 2 42 ++ stored 4 8) {i = 0} refl (holds_first (stored 2 42) (stored 4 8)) (omega arith)) (omega arith) (omega arith)

  first : long file true 4 ≡ 8
  first =
      header-word 4 8 (behind (stored 2 II) (stored 2 42 ++ stored 4 8) {i = 2} refl (holds_second (stored 2 42) (stored 4 8) refl) (omega arith)) (omega arith) (omega arith)

  number : short file true 8 ≡ entry_count f
  number = holds_word 2 (entry_count f) (in_file_lem (holds_count f each) (omega (arith, front_small f each fit, before_planes))) (omega (arith, entries-few f))

  -- the directory
  pub directory-is : Entries.directory file 0 ≡ d
  unfolding place
  directory-is = rw (is-little, first, number)

  -- the entries, by number
  entry_part : (width v : ℕ) {i j : ℕ} → i < entry_count f → Holds (entry_bytes (entry_of f each i)) j (stored width v) → j + width ≤ 12 → Holds file (8 + (2 + 12 * i) + j) (stored width v)
  entry_part width v {i} {j} h p room =
      in_file_lem (holds_in (holds_entry f each i h) p (omega (arith, length-stored width v))) (omega (arith, entry_before h, length-stored width v))

  tag_small : (i : ℕ) → i < 15 → (entry_of f each i).tag < 65536
  tag_small i h = ltb-true _ _ (every_one 15 (λ j. ltb (entry_of f each j).tag 65536) refl i h)

  tag_at_lem : (i : ℕ) → i < entry_count f → tag_at file d i ≡ (entry_of f each i).tag
  tag_at_lem i h =
      holds_word 2 (entry_of f each i).tag (holds_at (omega arith) (entry_part 2 (entry_of f each i).tag {j = 0} h (tag_in (entry_of f each i)) (omega arith))) (tag_small i (omega (arith, entries-few f)))

  -- the directory is all there, and its tags ascend
  pub directory-room : directory_end d ≤ length file
  unfolding bits_place file_length
  directory-room = omega (arith, length_file, before_planes)

  either_count : (entry_count f ≡ 14) ⊎ (entry_count f ≡ 15)
  either_count = by (dec_lt (entry_count f) 15)
    where
      by : Dec (entry_count f < 15) → (entry_count f ≡ 14) ⊎ (entry_count f ≡ 15)
      by (yes l) = inl (omega (arith, entries-few f))
      by (no g) = inr (omega (arith, entries-few f))

  pub tags_ascend : ascending file d ≡ true
  unfolding ascending
  tags_ascend =
      every-same (entry_count f - 1) _ (λ i. ltb (entry_of f each i).tag (entry_of f each (i + 1)).tag) (λ i h. rw (tag_at_lem i (omega arith), tag_at_lem (i + 1) (omega arith)))
      ∙ ⊎_elim (λ e. rw e) (λ e. rw e) either_count

  -- the field of a tag that stands in an entry
  pub field_there : (tag default i : ℕ) → i < entry_count f → (entry_of f each i).tag ≡ tag → seek (λ j. (entry_of f each j).tag) tag 0 (entry_count f - 0) ≡ i → field_of file d tag default ≡ field_at file d i
  unfolding field_from entry_from
  field_there tag default i h is found =
      let at : seek (tag_at file d) tag 0 (entry_count f - 0) ≡ i = seek-same (tag_at file d) (λ j. (entry_of f each j).tag) tag 0 (entry_count f - 0) (λ j l. tag_at_lem j (omega arith)) ∙ found in
      rw (le-ltb (length file) (directory_end d) directory-room, at, lt-ltb i (entry_count f) h, tag_at_lem i h, eq-eqb (entry_of f each i).tag tag is)

  -- and of one that does not
  pub field_missing : (tag default i : ℕ) → entry_count f ≤ i → seek (λ j. (entry_of f each j).tag) tag 0 (entry_count f - 0) ≡ i → field_of file d tag default ≡ missing i default
  unfolding field_from entry_from
  field_missing tag default i h past =
      let at : seek (tag_at file d) tag 0 (entry_count f - 0) ≡ i = seek-same (tag_at file d) (λ j. (entry_of f each j).tag) tag 0 (entry_count f - 0) (λ j l. tag_at_lem j (omega arith)) ∙ past in
      rw (le-ltb (length file) (directory_end d) directory-room, at, le-ltb i (entry_count f) h)

  pub found : (tag default i : ℕ) → i < 14 → (entry_of f each i).tag ≡ tag → seek (λ j. (entry_of f each j).tag) tag 0 14 ≡ i → seek (λ j. (entry_of f each j).tag) tag 0 15 ≡ i → field_of file d tag default ≡ field_at file d i
  found tag default i h is without with =
      field_there tag default i (omega (arith, entries-few f)) is (⊎_elim (λ e. rw e without) (λ e. rw e with) either_count)

  -- what its field says
  pub entry_is : (i : ℕ) → i < entry_count f → Small (entry_of f each i) → Said file i (field_at file d i) (entry_of f each i)
  entry_is i h small =
      let e = entry_of f each i in
      let kind_at : short file true (8 + (2 + 12 * i) + 2) ≡ e.kind = holds_word 2 e.kind (entry_part 2 e.kind h (kind_in e) (omega arith)) small.kind in
      let count_at : long file true (8 + (2 + 12 * i) + 4) ≡ e.count = holds_word 4 e.count (entry_part 4 e.count h (count_in e) (omega arith)) small.count in
      let last-at : long file true (8 + (2 + 12 * i) + 8) ≡ e.last = holds_word 4 e.last (entry_part 4 e.last h (last_in e) (omega arith)) small.last in
      record {
        there = refl;
        kind = kind_at;
        count = count_at;
        place = rw (kind_at, count_at, last-at);
        value = rw kind_at (ap (λ (v : ℕ). pick (eqb e.kind 3) (short file true (8 + (2 + 12 * i) + 8)) v) last-at);
        held = entry_part 4 e.last h (last_in e) (omega arith);
      }
