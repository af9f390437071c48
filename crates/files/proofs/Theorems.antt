-- What an accepted call of `write_file` wrote is read back: the reader answers its page, each strip is that part of the planes, and all strips end
-- to end are the planes. Assumes nothing.
use Rattle.std.specs.Prelude.{Ok}
use Prim.Native.Nat.{ℕ, ◌+◌, ◌*◌, ◌≤◌, ◌<◌}
use mathlib.Core.Path.{◌≡◌, refl, sym, ap, ◌∙◌, subst}
use mathlib.Core.Bool.{Bool, true, false, not, ◌||◌}
use mathlib.Core.List.{List}
use native.Mathlib.Omega.{arith}
use borrow.Author.Tests.{le-ltb, eq-eqb, ltb-false}
use lib.ListN.{length, take, drop, length-take, length-drop}
use lib.Seq.{get_or-take, get_or-drop, drop-append-add, ext_get_or}
use lib.Dec.{eqb, ltb}
use Rattle.answer.specs.Outcome.{Promise, done, unless, Sound, none, next, outcome, Answer}
use Rattle.answer.proofs.Promised.{writes, done-sound, done-value, sound-done, sound_more, sound-front, sound_back, sound-here}
use Rattle.laws.specs.Turns.{end_to_end}
use Rattle.laws.proofs.Says.{held}
use Rattle.laws.proofs.Turns.{turns_all}
use Rattle.laws.proofs.Joined.{joined_same, parts_joined}
use Rattle.layout.specs.declared.Fields.{Fields}
use Rattle.layout.specs.declared.RasterLayout.{RasterLayout}
use Rattle.layout.specs.Layout.{layout_faults, completed, encoded_width, plane_channels, scratch_length, output_length, eight_rule, alpha_rule, palette_rule, slots_rule}
use Rattle.entries.specs.declared.Directory.{Directory}
use Rattle.entries.specs.Entries.{header_faults, on_the_way, open_faults, value_of, field_of, directory_end}
use Rattle.entries.specs.Entries as Entries
use Rattle.tags.specs.declared.Tags.{Tags}
use Rattle.tags.specs.Tags.{tags_of, tag_faults, said_faults}
use Rattle.directory.specs.Page.{page_faults, strip_rows, strips_by, strip_faults, strips_faults, read_faults, page_of, strip_part, cut, placed, DirectoryRead, StripCut}
use Rattle.directory.specs.Page as Reader
use Rattle.directory.specs.declared.Page.{Page}
use Rattle.directory.proofs.Theorems.{every-strip}
use Rattle.directory.proofs.Determined.{read_directory_determined}
use Rattle.files.specs.File.{row_bytes, strips, strip_bytes, strip_start, strip_place, file_length, front, file_of, asked_faults, write_faults, FileWritten, without_map, page_back, strip_back}
use Rattle.files.specs.Parts.{Fit}
use Rattle.files.proofs.Asking.{asked, scratch_is}
use Rattle.files.proofs.Places.{length_front}
use Rattle.files.proofs.Sizes.{strips-all, strip-inside, strip_small, entries-few}
use Rattle.files.proofs.Reading.{written, is-little, version, mark, directory-is, directory-room, tags_ascend, length_file}
use Rattle.files.proofs.Used.{kind, offsets, counts}
use Rattle.files.proofs.Sound.{said_sound, tags_back}

-- a part of the front of a list
part_front : (at n all : ℕ) (l : List ℕ) → at + n ≤ all → take n (drop at (take all l)) ≡ take n (drop at l)
part_front at n all l h =
    ext_get_or 0 (take n (drop at (take all l))) (take n (drop at l)) (simp (length-take, length-drop) (omega arith)) (λ i q. let less : i < n = omega (arith, length-take n (drop at (take all l))) in get_or-take n (drop at (take all l)) i 0 less ∙ get_or-drop at (take all l) i 0 ∙ get_or-take all l (at + i) 0 (omega arith) ∙ sym (get_or-take n (drop at l) i 0 less ∙ get_or-drop at l i 0))

module _ (f : Fields) (each : ℕ) (planes : List ℕ) (fit : Fit f each) (all : scratch_length f ≤ length planes) where
  abbrev file : List ℕ
  file = file_of f each planes

  abbrev d : Directory
  d = written f

  open_sound : Sound (open_faults file 0)
  unfolding header_faults on_the_way
  open_sound =
      let long-enough : directory_end d ≤ length file = directory-room f each planes fit all in
      let short_file : ltb (length file) 8 ≡ false = le-ltb (length file) 8 (omega (arith, long-enough)) in
      let no_mark : not (eqb (Entries.short file true 0) 18761 || eqb (Entries.short file true 0) 19789) ≡ false = rw (mark f each planes fit all) in
      let other : not (eqb (Entries.short file (Entries.little file) 2) 42) ≡ false = rw (is-little f each planes fit all, version f each planes fit all) in
      let on_the_way_lem : Sound (Entries.directory_faults file d) = next refl (next (le-ltb (length file) 10 (omega (arith, long-enough))) (next (le-ltb 64 d.n (omega (arith, entries-few f))) (next (le-ltb (length file) (directory_end d) long-enough) (next (held (tags_ascend f each planes fit all)) none)))) in
      sound_more (next refl (next short_file (next no_mark (next other none)))) (subst (λ (x : Directory). Sound (Entries.directory_faults file x)) (sym (directory-is f each planes fit all)) on_the_way_lem)

  -- the layout is accepted with any map
  laid_sound : Sound (layout_faults (without_map f))
  unfolding eight_rule alpha_rule palette_rule slots_rule output_length
  laid_sound = fit.sound

  -- what the tags say
  abbrev told : Tags
  told =
      record { fields = without_map f; predictor = 1; compression = 1; rows = f.h; each = each; offsets = field_of file d 273 0; counts = field_of file d 279 0 }

  tags_are : tags_of file (Entries.directory file 0) ≡ told
  tags_are = ap (tags_of file) (directory-is f each planes fit all) ∙ tags_back f each planes fit all

  -- a strip: where it stands, how long it is, and that it has no fault
  place-back : (k : ℕ) → k < strips f each → Reader.strip_place file (strips_by told) k ≡ strip_place f each k
  unfolding strips_by
  place-back k h = ap (λ (le : Bool). value_of file le (field_of file d 273 0) k) (kind f each planes fit all).little ∙ (offsets f each planes fit all).1 k h

  length_back : (k : ℕ) → k < strips f each → Reader.strip_length file (strips_by told) k ≡ strip_bytes f each k
  unfolding strips_by
  length_back k h = ap (λ (le : Bool). value_of file le (field_of file d 279 0) k) (kind f each planes fit all).little ∙ (counts f each planes fit all).1 k h

  strip-sound : (k : ℕ) → k < strips f each → Sound (strip_faults file (strips_by told) k)
  unfolding strip_faults strip_bytes strips_by row_bytes encoded_width plane_channels
  strip-sound k h =
      let unequal : not (eqb (Reader.strip_length file (strips_by told) k) (strip_rows f.h each k * row_bytes f)) ≡ false = rw (length_back k h) (held (eq-eqb (strip_bytes f each k) (strip_bytes f each k) refl)) in
      let past : ltb (length file) (Reader.strip_place file (strips_by told) k + Reader.strip_length file (strips_by told) k) ≡ false = rw (place-back k h, length_back k h) (le-ltb (length file) (strip_place f each k + strip_bytes f each k) (omega (arith, strip_small f each fit k h, length_file f each planes fit all))) in
      next unequal (next past none)

  count-back : (strips_by told).offsets.count ≡ strips f each
  unfolding strips_by
  count-back = (offsets f each planes fit all).0.count

  -- the page is accepted
  page_sound : Sound (read_faults file 0)
  unfolding page_faults
  page_sound =
      let said : Sound (tag_faults file 0) = sound_more open_sound (subst (λ (x : Directory). Sound (said_faults file x)) (sym (directory-is f each planes fit all)) (said_sound f each planes fit all)) in
      let laid : Sound (layout_faults (tags_of file (Entries.directory file 0)).fields) = subst (λ (t : Tags). Sound (layout_faults t.fields)) (sym tags_are) laid_sound in
      let each-strip : Sound (strips_faults file (strips_by told)) = turns_all (strips_by told).offsets.count (strip_faults file (strips_by told)) (λ k h. strip-sound k (omega (arith, count-back))) in
      sound_more (sound_more said laid) (subst (λ (t : Tags). Sound (strips_faults file (strips_by t))) (sym tags_are) each-strip)

  page_back_lem : page_of file (Entries.directory file 0) ≡ page_back f each
  page_back_lem =
      let by_tags : Tags → Page = λ t. record { layout = completed t.fields; predictor = t.predictor; strips = (strips_by t).offsets.count; compression = t.compression } in
      let by_count : ℕ → Page = λ n. record { layout = completed (without_map f); predictor = 1; strips = n; compression = 1 } in
      ap by_tags tags_are ∙ ap by_count count-back

  taken : unless (read_faults file 0) (page_of file (Entries.directory file 0)) ≡ done (page_back f each)
  taken = sound-done (page_of file (Entries.directory file 0)) page_sound ∙ ap done page_back_lem

  -- a strip is the part of the planes at which it begins
  strip_back_lem : (k : ℕ) → k < strips f each → cut file (placed file 0 k) ≡ strip_back f each planes k
  strip_back_lem k h =
      let found : placed file 0 k ≡ done (strip_part file (strips_by told) k) = every-strip file 0 (page_back f each) taken k h ∙ ap (λ (t : Tags). done (strip_part file (strips_by t) k)) tags_are in
      let n = strip_bytes f each k in
      let at = strip_start f each k in
      ap (cut file) found
      ∙ rw (length_back k h, place-back k h)
      (ap (λ (i : ℕ). take n (drop (i + at) file)) (sym (length_front f each))
      ∙ ap (take n) (drop-append-add (front f each) (take (scratch_length f) planes) at)
      ∙ part_front at n (scratch_length f) planes (strip-inside f each fit k h))

-- what reading a file back means
pub record ReadBack (f : Fields) (each : ℕ) (planes file : List ℕ) : Type 0 where
  pub page : (r : Answer Page) → DirectoryRead file 0 r → r ≡ Ok (page_back f each)
  pub strip : (k : ℕ) (s : List ℕ) → k < strips f each → StripCut file 0 k s → s ≡ strip_back f each planes k
  pub whole : (s : ℕ → List ℕ) → ((k : ℕ) → k < strips f each → StripCut file 0 k (s k)) → end_to_end (strips f each) s ≡ take (scratch_length f) planes

file_back : (f : Fields) (each : ℕ) (planes : List ℕ) → Fit f each → scratch_length f ≤ length planes → ReadBack f each planes (file_of f each planes)
file_back f each planes fit all =
    record {
      page = λ r p. read_directory_determined (file_of f each planes) 0 r (Ok (page_back f each)) p (sym (taken f each planes fit all));
      strip = λ k s h p. p ∙ strip_back_lem f each planes fit all k h;
      whole = λ s p. joined_same (strips f each) s (strip_back f each planes) (λ k h. p k h ∙ strip_back_lem f each planes fit all k h) ∙ parts_joined (strips f each) (strip_bytes f each) planes ∙ ap (λ (n : ℕ). take n planes) (strips-all f each fit);
    }

-- what an accepted call wrote is read back
pub reads_back : (l : RasterLayout) (each : ℕ) (planes old new : List ℕ) (r : Answer ℕ) (n : ℕ) → FileWritten l each planes old r new → r ≡ Ok n → ReadBack l.fields each planes (take n new)
reads_back l each planes old new r n p e =
    let f = l.fields in
    let accepted : unless (write_faults l each planes old) (file_length f each) ≡ done n = sym p.answers ∙ ap outcome e in
    let sound = done-sound (write_faults l each planes old) (file_length f each) n accepted in
    let known = asked l each (sound-front (asked_faults l each) _ sound) in
    let fit = known.fit in
    let scratch : l.scratch_len ≡ scratch_length f = scratch_is known.whole in
    let all : scratch_length f ≤ length planes = omega (arith, ltb-false (length planes) l.scratch_len (sound-here (sound_back (asked_faults l each) _ sound)), scratch) in
    let long : length (file_of f each planes) ≡ n = length_file f each planes fit all ∙ done-value (write_faults l each planes old) (file_length f each) n accepted in
    let done_so : Promise (unless (write_faults l each planes old) (file_length f each)) (file_of f each planes) old (done n) new = record { answers = sym (ap outcome e) ∙ p.answers; leaves = p.leaves } in
    let wrote : take n new ≡ file_of f each planes = ap (λ (m : ℕ). take m new) (sym long) ∙ writes n new done_so in
    subst (λ (file : List ℕ). ReadBack f each planes file) (sym wrote) (file_back f each planes fit all)
