-- The used tags of a written file: the field of each, its values, and that it has no fault. Assumes nothing.
use Prim.Native.Nat.{ℕ, zero, suc, ◌+◌, ◌*◌, ◌≤◌, ◌<◌}
use mathlib.Core.Path.{◌≡◌, refl, sym, ap, ◌∙◌}
use mathlib.Core.Bool.{Bool, true, false, not, ◌&&◌, ◌||◌}
use mathlib.Core.List.{List}
use mathlib.Core.Logic.{⊎_elim}
use native.Mathlib.Omega.{arith}
use borrow.Author.Tests.{le-ltb, leb-true}
use lib.ListN.{length, get_or}
use lib.Dec.{eqb, ltb, leb}
use Rattle.answer.specs.Outcome.{pick, Sound, none, next}
use Rattle.words.specs.Digits.{value}
use Rattle.layout.specs.declared.Fields.{Fields}
use Rattle.layout.specs.Layout.{scratch_length}
use Rattle.layout.proofs.Accepted.{Accepted}
use Rattle.entries.specs.declared.Directory.{Directory}
use Rattle.entries.specs.declared.Field.{Field}
use Rattle.entries.specs.Entries.{SHORT, LONG, bytes_of, seek, field_at, field_of, missing, value_of, field_faults}
use Rattle.files.specs.File.{stored, strips, strip_bytes, strip_place, in_entry, outside, entry_count, bits_place, offsets_place, counts_place, resolutions_place, planes_place, file_length, Entry, one_short, entry_of, bits_of, photometric, planar, bits_last, offsets_last, counts_last, front, file_of}
use Rattle.files.specs.Parts.{Fit}
use Rattle.files.proofs.Holding.{Holds, holds_in, holds_word, length-stored}
use Rattle.files.proofs.Places.{holds_bit, holds_place, holds_length}
use Rattle.files.proofs.Sizes.{fields_accepted, entries-few, front_small, strips-few, strips-some, strip_small, file_small}
use Rattle.files.proofs.Layouts.{Channels, one, two, three, four, Samples, bit, byte, pair, Kind, kind_of, alphas, bits_mean, coloured}
use Rattle.files.proofs.Reading.{Said, written, length_file, in_file_lem, before_planes, found, field_there, field_missing, entry_is, low_half}

-- a field that is there, of a type and a count, with its values in the file
pub record Sure (size : ℕ) (g : Field) (type number : ℕ) : Type 0 where
  pub there : g.there ≡ true
  pub kind : g.kind ≡ type
  pub count : g.count ≡ number
  pub room : g.place + bytes_of type number ≤ size

-- it has no fault where its type and its count are allowed
pub sure_sound : {size : ℕ} {g : Field} {kind count : ℕ} (required longs several : Bool) → Sure size g kind count → (eqb kind SHORT || longs && eqb kind LONG) ≡ true → (several && eqb count 0 || not several && not (eqb count 1)) ≡ false → Sound (field_faults size required longs several g)
unfolding field_faults
sure_sound {size} {g} {kind} {count} required longs several s type number =
    let missing : (required && not g.there) ≡ false = rw s.there (nowhere required) in
    let other : not (eqb g.kind SHORT || longs && eqb g.kind LONG) ≡ false = rw (s.kind, type) in
    let wrong : (several && eqb g.count 0 || not several && not (eqb g.count 1)) ≡ false = rw s.count number in
    let past : ltb size (g.place + bytes_of g.kind g.count) ≡ false = rw (s.kind, s.count) (le-ltb size (g.place + bytes_of kind count) s.room) in
    next missing (next other (next wrong (next past none)))
  where
    nowhere : (b : Bool) → (b && false) ≡ false
    nowhere true = refl
    nowhere false = refl

-- two SHORTs of 8 as one LONG
eights : (j : ℕ) → j < 2 → Holds (stored 4 524296) (2 * j) (stored 2 8)
eights j h = record { bytes = by j h }
  where
    by : (i : ℕ) → i < 2 → (q : ℕ) → q < 2 → get_or (stored 4 524296) (2 * i + q) 0 ≡ get_or (stored 2 8) q 0
    by zero h zero l = refl
    by zero h (suc zero) l = refl
    by zero h (suc (suc q)) l = absurd (omega arith)
    by (suc zero) h zero l = refl
    by (suc zero) h (suc zero) l = refl
    by (suc zero) h (suc (suc q)) l = absurd (omega arith)
    by (suc (suc i)) h q l = absurd (omega arith)

-- one SHORT
pub record One (size : ℕ) (g : Field) (v : ℕ) : Type 0 where
  pub sure : Sure size g 3 1
  pub value : g.value ≡ v

module _ (f : Fields) (each : ℕ) (planes : List ℕ) (fit : Fit f each) (all : scratch_length f ≤ length planes) where
  abbrev file : List ℕ
  file = file_of f each planes

  abbrev d : Directory
  d = written f

  a : Accepted f
  a = fields_accepted f each fit

  pub kind : Kind f
  kind = kind_of f a fit.kind

  -- what stands before the planes is in the file
  room : planes_place f each ≤ length file
  unfolding file_length
  room = omega (arith, length_file f each planes fit all)

  inside : {i : ℕ} → i < entry_count f → 8 + (2 + 12 * i) + 12 ≤ length file
  unfolding bits_place
  inside h = omega (arith, room, before_planes f each planes fit all)

  short_said : (i tag v : ℕ) → i < entry_count f → entry_of f each i ≡ one_short tag v → v < 65536 → One (length file) (field_at file d i) v
  short_said i tag v h is small =
      let said : Said file i (field_at file d i) (one_short tag v) = rw is at (entry_is f each planes fit all i h (rw is (record { kind = omega arith; count = omega arith; last = omega arith }))) in
      record {
        sure = record { there = refl; kind = said.kind; count = said.count; room = omega (arith, said.place, inside h) };
        value = said.value ∙ holds_word 2 v (low_half v said.held) small;
      }

  one_short_lem : (tag default i v : ℕ) → i < 14 → entry_of f each i ≡ one_short tag v → seek (λ j. (entry_of f each j).tag) tag 0 14 ≡ i → seek (λ j. (entry_of f each j).tag) tag 0 15 ≡ i → v < 65536 → One (length file) (field_of file d tag default) v
  one_short_lem tag default i v h is without with small =
      rw (found f each planes fit all tag default i h (ap (λ (e : Entry). e.tag) is) without with) (short_said i tag v (omega (arith, entries-few f)) is small)

  pub width : One (length file) (field_of file d 256 0) f.w
  width = one_short_lem 256 0 0 f.w (omega arith) refl refl refl (omega (arith, a.width))

  pub height : One (length file) (field_of file d 257 0) f.h
  height = one_short_lem 257 0 1 f.h (omega arith) refl refl refl (omega (arith, a.height))

  pub compression : One (length file) (field_of file d 259 1) 1
  compression = one_short_lem 259 1 3 1 (omega arith) refl refl refl (omega arith)

  pub colours : One (length file) (field_of file d 262 0) (photometric f)
  colours = one_short_lem 262 0 4 (photometric f) (omega arith) refl refl refl (omega (arith, (coloured f kind.channels).few))

  pub samples : One (length file) (field_of file d 277 1) f.ch
  samples = one_short_lem 277 1 6 f.ch (omega arith) refl refl refl (omega (arith, a.few))

  planar-few : planar f ≤ 2
  unfolding planar
  planar-few = by f.separate
    where
      by : (b : Bool) → pick b 2 1 ≤ 2
      by true = omega arith
      by false = omega arith

  pub apart : One (length file) (field_of file d 284 1) (planar f)
  apart = one_short_lem 284 1 11 (planar f) (omega arith) refl refl refl (omega (arith, planar-few))

  pub predictor : One (length file) (field_of file d 317 1) 1
  predictor = one_short_lem 317 1 13 1 (omega arith) refl refl refl (omega arith)

  pub rows : Sure (length file) (field_of file d 278 4294967295) 4 1 × ((field_of file d 278 4294967295).value ≡ each)
  rows =
      let few : 7 < entry_count f = omega (arith, entries-few f) in
      let said = entry_is f each planes fit all 7 few (record { kind = omega arith; count = omega arith; last = omega (arith, fit.within, a.height) }) in
      rw (found f each planes fit all 278 4294967295 7 (omega arith) refl refl refl)
      (record { there = refl; kind = said.kind; count = said.count; room = omega (arith, said.place, inside few) }, said.value)

  -- value j of a field, of either type
  long-value : (g : Field) (k v : ℕ) {at : ℕ} → g.kind ≡ LONG → g.place ≡ at → at + 4 * k + 4 ≤ length file → Holds file (at + 4 * k) (stored 4 v) → v < 4294967296 → value_of file true g k ≡ v
  unfolding value_of
  long-value g k v {at} type is within held small =
      rw (type, is, le-ltb (length file) (at + 4 * k + 4) within) (holds_word 4 v held small)

  short-value : (g : Field) (j v : ℕ) {at : ℕ} → g.kind ≡ SHORT → g.place ≡ at → at + 2 * j + 2 ≤ length file → Holds file (at + 2 * j) (stored 2 v) → v < 65536 → value_of file true g j ≡ v
  unfolding value_of
  short-value g j v {at} type is within held small =
      rw (type, is, le-ltb (length file) (at + 2 * j + 2) within) (holds_word 2 v held small)

  -- the numbers of all strips: in the entry if there is one strip, else outside
  strip-numbers : (i tag place : ℕ) (v : ℕ → ℕ) → i < entry_count f → entry_of f each i ≡ record { tag = tag; kind = LONG; count = strips f each; last = pick (in_entry 4 (strips f each)) (v 0) place } → ((k : ℕ) → k < strips f each → v k < 4294967296) → place + 4 * outside 4 (strips f each) ≤ planes_place f each → ((k : ℕ) → k < outside 4 (strips f each) → Holds (front f each) (place + 4 * k) (stored 4 (v k))) → Sure (length file) (field_at file d i) LONG (strips f each) × ((k : ℕ) → k < strips f each → value_of file true (field_at file d i) k ≡ v k)
  unfolding outside
  strip-numbers i tag place v h is small before held = by (in_entry 4 (strips f each)) refl
    where
      by : (b : Bool) → in_entry 4 (strips f each) ≡ b → Sure (length file) (field_at file d i) LONG (strips f each) × ((k : ℕ) → k < strips f each → value_of file true (field_at file d i) k ≡ v k)
      by true in_it =
          let single : 4 * strips f each ≤ 4 = leb-true _ _ in_it in
          let first : 0 < strips f each = strips-some f each fit in
          let e : entry_of f each i ≡ record { tag = tag; kind = LONG; count = strips f each; last = v 0 } = rw in_it at is in
          let said : Said file i (field_at file d i) (record { tag = tag; kind = LONG; count = strips f each; last = v 0 }) = rw e at (entry_is f each planes fit all i h (rw e (record { kind = omega arith; count = omega (arith, strips-few f each fit); last = small 0 first }))) in
          let at : (field_at file d i).place ≡ 8 + (2 + 12 * i) + 8 = rw in_it at said.place in (
            record { there = refl; kind = said.kind; count = said.count; room = omega (arith, at, inside h, single) },
            λ k l. let zeroth : k ≡ 0 = omega (arith, single) in rw zeroth (long-value (field_at file d i) 0 (v 0) said.kind at (omega (arith, inside h)) (rw at_zero said.held) (small 0 first)),
          )
        where
          at_zero : 8 + (2 + 12 * i) + 8 + 4 * 0 ≡ 8 + (2 + 12 * i) + 8
          at_zero = omega arith
      by false out =
          let e : entry_of f each i ≡ record { tag = tag; kind = LONG; count = strips f each; last = place } = rw out at is in
          let room_for : place + 4 * strips f each ≤ planes_place f each = rw out at before in
          let said : Said file i (field_at file d i) (record { tag = tag; kind = LONG; count = strips f each; last = place }) = rw e at (entry_is f each planes fit all i h (rw e (record { kind = omega arith; count = omega (arith, strips-few f each fit); last = omega (arith, room_for, front_small f each fit) }))) in
          let at : (field_at file d i).place ≡ place = rw out at said.place in (
            record { there = refl; kind = said.kind; count = said.count; room = omega (arith, at, room_for, room) },
            λ k l. long-value (field_at file d i) k (v k) said.kind at (omega (arith, room_for, room)) (in_file_lem f each planes fit all (held k (rw out l)) (omega (arith, room_for, length-stored 4 (v k)))) (small k l),
          )

  pub offsets : Sure (length file) (field_of file d 273 0) LONG (strips f each) × ((k : ℕ) → k < strips f each → value_of file true (field_of file d 273 0) k ≡ strip_place f each k)
  unfolding offsets_last counts_place resolutions_place planes_place
  offsets =
      rw (found f each planes fit all 273 0 5 (omega arith) refl refl refl)
      (strip-numbers 5 273 (offsets_place f) (strip_place f each) (omega (arith, entries-few f)) refl (λ k l. (strip_small f each fit k l).1) (omega arith) (holds_place f each))

  pub counts : Sure (length file) (field_of file d 279 0) LONG (strips f each) × ((k : ℕ) → k < strips f each → value_of file true (field_of file d 279 0) k ≡ strip_bytes f each k)
  unfolding counts_last resolutions_place planes_place
  counts =
      rw (found f each planes fit all 279 0 8 (omega arith) refl refl refl)
      (strip-numbers 8 279 (counts_place f each) (strip_bytes f each) (omega (arith, entries-few f)) refl (λ k l. omega (arith, strip_small f each fit k l, file_small f each fit)) (omega arith) (holds_length f each))

  -- the bits of a sample: one or two in the entry, more outside
  bits_said : (last : ℕ) → bits_last f ≡ last → last < 4294967296 → Said file 2 (field_at file d 2) (record { tag = 258; kind = SHORT; count = f.ch; last = last })
  bits_said last is small =
      let e : entry_of f each 2 ≡ record { tag = 258; kind = SHORT; count = f.ch; last = last } = rw is in
      rw e at (entry_is f each planes fit all 2 (omega (arith, entries-few f)) (rw e (record { kind = omega arith; count = omega (arith, a.few); last = small })))

  one_bits : f.ch ≡ 1 → bits_last f ≡ bits_of f
  unfolding bits_last
  one_bits c = rw c (omega arith)

  two_bits : f.ch ≡ 2 → bits_of f ≡ 8 → bits_last f ≡ 524296
  unfolding bits_last
  two_bits c b =
      ap (λ (n : ℕ). pick (leb (2 * n) 4) (value 65536 n (λ j. bits_of f)) (bits_place f)) c ∙ ap (λ (v : ℕ). v + 65536 * (v + 65536 * 0)) b

  more_bits : leb (2 * f.ch) 4 ≡ false → bits_last f ≡ bits_place f
  unfolding bits_last
  more_bits e = rw e

  -- with alpha each sample is a byte
  alpha_bits : f.alpha ≡ 2 → f.ch ≡ 2 → Samples f → bits_of f ≡ 8
  unfolding bits_of
  alpha_bits z c (bit s b alone) = absurd (omega arith)
  alpha_bits z c (byte s b) = rw (s, b)
  alpha_bits z c (pair s b plain) = absurd (omega arith)

  abbrev Bits : Field → Type 0
  Bits g = Sure (length file) g SHORT f.ch × ((j : ℕ) → j < f.ch → value_of file true g j ≡ bits_of f)

  bits_small : bits_of f ≤ 16
  bits_small = (bits_mean f kind.samples).1.1

  outside_bits : leb (2 * f.ch) 4 ≡ false → Bits (field_at file d 2)
  unfolding outside offsets_place counts_place resolutions_place planes_place
  outside_bits e =
      let said = bits_said (bits_place f) (more_bits e) (omega (arith, before_planes f each planes fit all, front_small f each fit)) in
      let at : (field_at file d 2).place ≡ bits_place f = rw e at said.place in
      let every : outside 2 f.ch ≡ f.ch = rw e in
      let before : bits_place f + 2 * f.ch ≤ planes_place f each = omega (arith, every) in (
        record { there = refl; kind = said.kind; count = said.count; room = omega (arith, at, before, room) },
        λ j l. short-value (field_at file d 2) j (bits_of f) said.kind at (omega (arith, before, room)) (in_file_lem f each planes fit all (holds_bit f each j (rw every l)) (omega (arith, before, length-stored 2 (bits_of f)))) (omega (arith, bits_small)),
      )

  bits_by : Channels f → Bits (field_at file d 2)
  bits_by (one c z) =
      let said = bits_said (bits_of f) (one_bits c) (omega (arith, bits_small)) in
      let at : (field_at file d 2).place ≡ 42 = said.place ∙ ap (λ (n : ℕ). pick (leb (2 * n) 4) 42 (bits_of f)) c in
      let few = inside {i = 2} (omega (arith, entries-few f)) in (
        record { there = refl; kind = said.kind; count = said.count; room = omega (arith, at, few, c) },
        λ j l. let zeroth : j ≡ 0 = omega (arith, c) in rw zeroth (short-value (field_at file d 2) 0 (bits_of f) said.kind at (omega (arith, few)) (low_half (bits_of f) said.held) (omega (arith, bits_small))),
      )
  bits_by (two c z) =
      let b = alpha_bits z c kind.samples in
      let said = bits_said 524296 (two_bits c b) (omega arith) in
      let at : (field_at file d 2).place ≡ 42 = said.place ∙ ap (λ (n : ℕ). pick (leb (2 * n) 4) 42 524296) c in
      let few = inside {i = 2} (omega (arith, entries-few f)) in (
        record { there = refl; kind = said.kind; count = said.count; room = omega (arith, at, few, c) },
        λ j l. rw b (half j (omega (arith, c)) said.kind at few said.held),
      )
    where
      half : (j : ℕ) → j < 2 → (field_at file d 2).kind ≡ SHORT → (field_at file d 2).place ≡ 42 → 8 + (2 + 12 * 2) + 12 ≤ length file → Holds file 42 (stored 4 524296) → value_of file true (field_at file d 2) j ≡ 8
      half j h type at few held = short-value (field_at file d 2) j 8 type at (omega (arith, few)) (holds_in held (eights j h) (omega arith)) (omega arith)
  bits_by (three c z w) = outside_bits (ap (λ (n : ℕ). leb (2 * n) 4) c)
  bits_by (four c z w) = outside_bits (ap (λ (n : ℕ). leb (2 * n) 4) c)

  pub bits : Bits (field_of file d 258 1)
  bits = rw (found f each planes fit all 258 1 2 (omega arith) refl refl refl) (bits_by kind.channels)

  -- the extra sample is there with alpha alone
  pub record Extra (g : Field) : Type 0 where
    pub there : g.there ≡ not (eqb f.alpha 0)
    pub value : g.value ≡ f.alpha
    pub sound : Sound (field_faults (length file) false false false g)

  with_alpha : f.alpha ≡ 2 → Extra (field_of file d 338 0)
  unfolding entry_count
  with_alpha z =
      let all_of : entry_count f ≡ 15 = fifteen z in
      let field : field_of file d 338 0 ≡ field_at file d 14 = field_there f each planes fit all 338 0 14 (omega (arith, all_of)) refl (rw all_of) in
      let is = short_said 14 338 2 (omega (arith, all_of)) refl (omega arith) in
      rw field (record { there = ap (λ (n : ℕ). not (eqb n 0)) (sym z); value = is.value ∙ sym z; sound = sure_sound false false false is.sure refl refl })
    where
      fifteen : f.alpha ≡ 2 → entry_count f ≡ 15
      fifteen e = ap (λ (n : ℕ). pick (eqb n 0) 14 15) e

  without_alpha : f.alpha ≡ 0 → Extra (field_of file d 338 0)
  unfolding entry_count field_faults
  without_alpha z =
      let all_of : entry_count f ≡ 14 = fourteen z in
      let field : field_of file d 338 0 ≡ missing 14 0 = field_missing f each planes fit all 338 0 14 (omega (arith, all_of)) (rw all_of) in
      rw field (record { there = ap (λ (n : ℕ). not (eqb n 0)) (sym z); value = sym z; sound = missing-sound })
    where
      fourteen : f.alpha ≡ 0 → entry_count f ≡ 14
      fourteen e = ap (λ (n : ℕ). pick (eqb n 0) 14 15) e

      missing-sound : Sound (field_faults (length file) false false false (missing 14 0))
      missing-sound = next refl (next refl (next refl (next (le-ltb (length file) 2 (omega (arith, inside {i = 0} (omega (arith, entries-few f))))) none)))

  pub extra : Extra (field_of file d 338 0)
  extra = ⊎_elim without_alpha with_alpha (alphas kind.channels)
