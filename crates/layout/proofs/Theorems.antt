-- Rules 5.5 to 5.9: the check accepts exactly upstream's `valid` within the limits, and answers the only such record; the record check
-- accepts what the check answers; `index` answers a place below the scratch length; the map offset is never a reason. Assumes nothing.
use Rattle.std.specs.Prelude.{Ok}
use Prim.Native.Nat.{ℕ, ◌≤◌, ◌<◌}
use mathlib.Core.Path.{◌≡◌, refl, sym, ap, subst, ◌∙◌}
use mathlib.Core.Bool.{Bool, true, false}
use mathlib.Core.List.{[], ◌∷◌}
use mathlib.Core.Logic.{inl, inr, ⊎_elim}
use native.Mathlib.Omega.{arith}
use borrow.Author.Tests.{leb-false}
use lib.Dec.{leb}
use Rattle.answer.specs.Outcome.{Sound, next, none, done, invalid, Answer, Done}
use Rattle.answer.specs.declared.ByteAt.{ByteAt}
use Rattle.answer.proofs.Promised.{done-sound, done-value, answer_once, sound-done, sound-here, sound-front, sound_more, sound_back}
use Rattle.layout.specs.declared.Fields.{Fields}
use Rattle.layout.specs.declared.RasterLayout.{RasterLayout}
use Rattle.layout.specs.Layout.{completed, encoded_width, plane_channels, planes, plane_length, scratch_length, output_length, colours, eight_rule, alpha_rule, palette_rule, slots_rule, agreement, layout_faults, record_faults, index_faults, source_index, LayoutChecked, RecordChecked, Indexed}
use Rattle.layout.specs.Valid.{Valid, Within}
use Rattle.laws.proofs.Says.{held}
use Rattle.layout.proofs.Accepted.{Accepted, accepted, all_asked, OneTwoEight, Agreement, agrees}
use Rattle.layout.proofs.Sizes.{scratch_within}
use Rattle.layout.proofs.Whole.{record_of, agreed_whole, record_whole, record_accepted, record_agreed}
use Rattle.layout.proofs.Placed.{source_below}
use Rattle.answer.proofs.Promised.{answer_once}

-- what the steps accept is valid, once it is completed
pub accepted_valid : (f : Fields) → Sound (layout_faults f) → Valid (completed f) × Within (completed f)
unfolding encoded_width plane_channels planes plane_length scratch_length output_length colours
accepted_valid f s =
    let a = accepted f s in (
      record {
        some = ((a.wide, a.high), (a.some, a.few));
        byte_widths = a.bytes;
        eight_bytes = a.eight;
        alpha_kinds = a.alpha;
        with_alpha = a.covered;
        with_palette = a.mapped;
        without_palette = a.shared;
        encoded_width_lem = refl;
        plane_channels_lem = refl;
        planes = refl;
        plane_length_lem = refl;
        scratch_length_lem = refl;
        output_length_lem = refl;
        colours = refl;
      },
      record { width = a.width; height = a.height; size = a.size },
    )

-- and what is valid within the limits is accepted, and is the record that the check answers
valid_asked : (l : RasterLayout) → Valid l → Within l → Accepted l.fields
unfolding output_length
valid_asked l v t =
    record {
      bytes = v.byte_widths;
      some = v.some.1.0;
      few = v.some.1.1;
      slots = by l.fields.palette refl;
      alpha = v.alpha_kinds;
      wide = v.some.0.0;
      high = v.some.0.1;
      eight = v.eight_bytes;
      covered = v.with_alpha;
      mapped = v.with_palette;
      shared = v.without_palette;
      width = t.width;
      height = t.height;
      size = t.size;
    }
  where
    by : (b : Bool) → l.fields.palette ≡ b → OneTwoEight l.fields.slots
    by true e = (v.with_palette e).0.0.1
    by false e = ⊎_elim (λ one. inl (inl one)) (λ q. inr q.0.0.0) (v.without_palette e)

valid_agrees : (l : RasterLayout) → Valid l → Agreement l (completed l.fields)
unfolding encoded_width plane_channels planes plane_length scratch_length output_length colours
valid_agrees l v =
    let plane : l.plane_len ≡ plane_length l.fields = rw (v.encoded_width_lem, v.plane_channels_lem) at v.plane_length_lem in
    let scratch : l.scratch_len ≡ scratch_length l.fields = rw (plane, v.planes) at v.scratch_length_lem in
    record {
      encoded_width_lem = v.encoded_width_lem;
      plane_channels_lem = v.plane_channels_lem;
      planes = v.planes;
      plane_length_lem = plane;
      scratch_length_lem = scratch;
      output_length_lem = v.output_length_lem;
      colours = v.colours;
    }

pub valid_accepted : (l : RasterLayout) → Valid l → Within l → Sound (layout_faults l.fields) × (l ≡ completed l.fields)
valid_accepted l v t = (all_asked l.fields (valid_asked l v t), agreed_whole l (valid_agrees l v))

-- the record for what a caller says is the only valid one
pub only_record : (f : Fields) (l : RasterLayout) → Valid l → l.fields ≡ f → l ≡ completed f
only_record f l v e = agreed_whole l (valid_agrees l v) ∙ ap completed e

-- of the check itself: it answers a record exactly if that record is valid and within the limits, and says what the caller said
pub checked_valid : (f : Fields) (l : RasterLayout) → LayoutChecked f (Ok l) → (Valid l × Within l) × (l.fields ≡ f)
checked_valid f l p =
    subst (λ (x : RasterLayout). (Valid x × Within x) × (x.fields ≡ f)) (done-value (layout_faults f) (completed f) l (sym p))
    (accepted_valid f (done-sound (layout_faults f) (completed f) l (sym p)), refl)

pub valid_checked : (l : RasterLayout) (answer : Answer RasterLayout) → Valid l → Within l → LayoutChecked l.fields answer → answer ≡ Ok l
valid_checked l answer v t p =
    let good = valid_accepted l v t in answer_once answer (Ok l) (p ∙ sound-done (completed l.fields) good.0 ∙ ap done (sym good.1))

-- of the record check: it is content exactly with a record that is valid and within the limits
pub record_sound : (l : RasterLayout) → Sound (layout_faults l.fields) → Agreement l (completed l.fields) → Sound (record_faults l)
record_sound l s a = sound_more s (next (held ((agrees l (completed l.fields)).told a)) none)

pub record_valid : (l : RasterLayout) → RecordChecked l (Ok tt) → Valid l × Within l
record_valid l p =
    let s = done-sound (record_faults l) tt tt (sym p) in
    subst (λ (x : RasterLayout). Valid x × Within x) (sym (record_whole l s)) (accepted_valid l.fields (all_asked l.fields (record_accepted l s)))

pub valid_record : (l : RasterLayout) (answer : Done) → Valid l → Within l → RecordChecked l answer → answer ≡ (Ok tt)
valid_record l answer v t p =
    answer_once answer (Ok tt) (p ∙ sound-done tt (record_sound l (valid_accepted l v t).0 (valid_agrees l v)))

-- a record that the check answers has no fault, so the record check accepts it
pub answered_sound : (f : Fields) (l : RasterLayout) → LayoutChecked f (Ok l) → Sound (record_faults l)
answered_sound f l p =
    let good = (checked_valid f l p).0 in record_sound l (valid_accepted l good.0 good.1).0 (valid_agrees l good.0)

pub answered_accepted : (f : Fields) (l : RasterLayout) (answer : Done) → LayoutChecked f (Ok l) → RecordChecked l answer → answer ≡ (Ok tt)
answered_accepted f l answer p q = answer_once answer (Ok tt) (q ∙ sound-done tt (answered_sound f l p))

-- scratch length never exceeds output length
pub scratch_within_output : (l : RasterLayout) → Sound (record_faults l) → l.scratch_len ≤ l.output_len
scratch_within_output l s =
    omega (arith, scratch_within l.fields (record_accepted l s), (record_agreed l s).scratch_length_lem, (record_agreed l s).output_length_lem)

pub answered_scratch : (f : Fields) (l : RasterLayout) → LayoutChecked f (Ok l) → l.scratch_len ≤ l.output_len
answered_scratch f l p = scratch_within_output l (answered_sound f l p)

-- `index` answers a place below the scratch length
pub index_below_scratch : (l : RasterLayout) (k : ℕ) (at : ByteAt) → Indexed l k (Ok at) → at.0 < l.scratch_len
index_below_scratch l k at p =
    let s = done-sound (index_faults l k) (source_index l k) at.0 (sym p) in
    let here = done-value (index_faults l k) (source_index l k) at.0 (sym p) in
    let within = leb-false l.output_len k (sound-here (sound_back (record_faults l) (invalid (leb l.output_len k) ∷ []) s)) in
    rw here at (source_below l (sound-front (record_faults l) (invalid (leb l.output_len k) ∷ []) s) k within)

-- the map offset is never a reason: with another one the faults are the same
abbrev moved : Fields → ℕ → Fields
moved f map = record { w = f.w; h = f.h; ch = f.ch; bytes = f.bytes; slots = f.slots; palette = f.palette; separate = f.separate; le = f.le; white = f.white; alpha = f.alpha; map = map }

abbrev record_moved : RasterLayout → ℕ → RasterLayout
record_moved l map =
    record_of (moved l.fields map) l.encoded_width l.plane_channels l.planes l.plane_len l.scratch_len l.output_len l.colors

pub map_never : (l : RasterLayout) (map k : ℕ) → index_faults (record_moved l map) k ≡ index_faults l k
unfolding eight_rule alpha_rule palette_rule slots_rule agreement encoded_width plane_channels planes plane_length scratch_length output_length colours
map_never l map k = refl
