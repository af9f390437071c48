-- From one tag of a directory to the next, and what was read of all. Assumes nothing.
use Prim.Native.Nat.{◌<◌, ℕ}
use Rattle.answer.proofs.Promised.{sound_back, sound-front, sound-here, sound_rest}
use Rattle.answer.specs.Outcome.{Sound, Step, Done}
use Rattle.entries.proofs.Seeking.{field_next, from_field}
use Rattle.entries.specs.Entries.{field_faults, field_from, field_of}
use Rattle.entries.specs.Parts.{From, Room}
use Rattle.entries.specs.declared.Directory.{Directory}
use Rattle.entries.specs.declared.Field.{Field}
use Rattle.tags.specs.Tags.{depth_of, extras_faults, extras_of, later_faults, planar_faults, said_faults, samples_faults, shape_faults, shape_of, split_faults, split_of, strips_of, tags_by, tags_of}
use Rattle.tags.specs.declared.Tags.{Tags}
use Rattle.tags.specs.declared.extras.Extras.{Extras}
use Rattle.tags.specs.declared.shape.Shape.{Shape}
use Rattle.tags.specs.declared.split.Split.{Split}
use borrow.Author.Tests.{eqb-false, eqb-true, not-false}
use lib.ListN.{length}
use mathlib.Core.Bool.{false, true}
use mathlib.Core.List.{List, ◌++◌}
use mathlib.Core.Path.{◌∙◌, ◌≡◌}
use native.Mathlib.Omega.{arith}

-- a field that was looked for from the entry of the one before
module _ (file : List ℕ) (d : Directory) (room : Room file d) where
  pub next_field : (tag default higher default' : ℕ) (f g : Field) → tag < higher → f ≡ field_of file d tag default → g ≡ field_from file d f.entry higher default' → g ≡ field_of file d higher default'
  next_field tag default higher default' f g h is e =
      e ∙ field_next file d f.entry higher default' (rw is (from_field file d tag default higher room h))

  -- from one group of tags to the next
  pub from_shape : From file d (shape_of file d).photometric.entry 273
  unfolding shape_of
  from_shape = from_field file d 262 0 273 room (omega arith)

  pub from_split : From file d (split_of file d).planar.entry 317
  unfolding split_of
  from_split = from_field file d 284 1 317 room (omega arith)

-- what was read of all tags but those up to 262
module _ (file : List ℕ) (d : Directory) (s : Shape) (t : Split) (x : Extras) (depth : ℕ) (s_is : s ≡ shape_of file d) (t_is : t ≡ split_of file d) (x_is : x ≡ extras_of file d) (depth_is : depth ≡ depth_of file d.le s.bits) where
  pub later_steps : (a : Done) → Step (split_faults (length file) s t ++ extras_faults (length file) s t depth x) a → Step (later_faults file d) a
  later_steps a steps = rw (x_is, t_is, depth_is, s_is) at steps

  pub tags_are : (r : Tags) → r ≡ tags_by d.le s t depth x → r ≡ tags_of file d
  tags_are r e = rw (x_is, t_is, depth_is, s_is) at e

-- what tags without a fault say of the strips: some rows in each, and as many as the rows need
pub record StripsSaid (s : Shape) (t : Split) : Type 0 where
  pub some : 0 < t.rows.value
  pub all : t.offsets.count ≡ strips_of s.height.value t

pub strips_said : (file : List ℕ) (d : Directory) → Sound (said_faults file d) → StripsSaid (shape_of file d) (split_of file d)
unfolding said_faults split_faults planar_faults
strips_said file d sound =
    let size = length file in
    let s = shape_of file d in
    let t = split_of file d in
    let from_offsets = sound-front (split_faults size s t) _ (sound_back (shape_faults file d.le s) _ sound) in
    let from_samples = sound_back (field_faults size true true true t.offsets) _ from_offsets in
    let from_rows = sound_back (samples_faults size s t.samples) _ from_samples in
    let from_some = sound_back (field_faults size false true false t.rows) _ from_rows in
    let from_same = sound_back (field_faults size true true true t.counts) _ (sound_rest from_some) in
    let from_known = sound_back (field_faults size false false false t.planar) _ (sound_rest from_same) in
    let none : t.rows.value ≡ 0 → ⊥ = eqb-false t.rows.value 0 (sound-here from_some) in
    record { some = omega (arith, none); all = eqb-true _ _ (not-false _ (sound-here (sound_rest from_known))) }
