-- The clauses of raster_layout.rs and of `render_native`, one lemma each, from our promises to the clause over upstream's definitions. A premise there
-- is a refusal here, so a clause that is a premise is shown of every call that is ok. Assumes nothing.
use Rattle.std.specs.declared.result.Result.TheVariants as ResultIs
use Prim.Native.Nat.{ℕ, ◌+◌, ◌-◌, ◌*◌, ◌/◌, ◌≤◌, ◌<◌}
use mathlib.Core.Path.{◌≡◌, refl, sym, ◌∙◌}
use mathlib.Core.Bool.{Bool, true, false, ◌&&◌}
use mathlib.Core.List.{List, [], ◌∷◌}
use mathlib.Core.Logic.{◌⊎◌, inl, inr}
use native.Mathlib.Nat.{mul-pos}
use native.Mathlib.Omega.{arith}
use borrow.Author.Tests.{eqb-false, eq-eqb, ne_eqb, ltb-false, lt-ltb, le-ltb, leb-false, le-leb, lt-leb}
use lib.ListN.{length, get_or, take}
use lib.Seq.{get_or-take}
use lib.Dec.{eqb, ltb, leb}
use Rattle.answer.specs.Outcome.{refused, Fault, pick, Sound, next, none, First, here, later, unsupported, invalid, truncated, output_too_small, outcome, place_outcome, Answer, Done}
use Rattle.answer.specs.declared.ByteAt.{ByteAt}
use Rattle.answer.proofs.Promised.{sound-here, sound_rest, sound-front, sound_more, sound_then, first_more, refused-first, sound_back}
use Rattle.layout.specs.declared.Fields.{Fields}
use Rattle.layout.specs.declared.RasterLayout.{RasterLayout}
use Rattle.layout.specs.Layout.{byte_limit, record_faults, index_faults, LayoutChecked, RecordChecked, Indexed}
use Rattle.layout.specs.Layout as Ours
use Rattle.layout.specs.Valid.{Valid, Within}
use Rattle.layout.proofs.Placed.{scratch_limited}
use Rattle.layout.proofs.Theorems as Theorems
use Rattle.pixels.specs.Render.{render_faults, Rendered}
use Rattle.pixels.specs.Render as Render
use Rattle.pixels.proofs.Same as Planes
use Rattle.upstream.specs.Layout.{source_index, converted}
use Rattle.upstream.specs.Clause.{Ok, Exactly}
use Rattle.upstream.proofs.Same.{source_index-same, layout_converted-same, record_sound_valid, valid_record_sound}
use Rattle.upstream.proofs.Calls.{ok_sound, sound_ok, value-is, refused_for, bytes-written, rest_kept, length-kept}

-- a record that one of our two checks takes
abbrev pub Taken : RasterLayout → Type 0
Taken l = RecordChecked l (ResultIs.Ok tt) ⊎ ((f : Fields) × LayoutChecked f (ResultIs.Ok l))

pub taken_valid : (l : RasterLayout) → Taken l → Valid l × Within l
taken_valid l (inl p) = Theorems.record_valid l p
taken_valid l (inr c) = (Theorems.checked_valid c.0 l c.1).0

-- and each takes every record that is valid within the limits
pub valid_taken : (l : RasterLayout) → Valid l → Within l → (answer : Done) → RecordChecked l answer → answer ≡ (ResultIs.Ok tt)
valid_taken l v t answer p = Theorems.valid_record l answer v t p

pub valid_answered : (l : RasterLayout) → Valid l → Within l → (answer : Answer RasterLayout) → LayoutChecked l.fields answer → answer ≡ ResultIs.Ok l
valid_answered l v t answer p = Theorems.valid_checked l answer v t p

-- `valid`, line by line
module _ (l : RasterLayout) (t : Taken l) where
  pub valid_sides_and_channels : ((0 < l.fields.w) × (0 < l.fields.h)) × ((1 ≤ l.fields.ch) × (l.fields.ch ≤ 4))
  valid_sides_and_channels = (taken_valid l t).0.some

  pub valid_bytes : ((l.fields.bytes ≡ 1) ⊎ (l.fields.bytes ≡ 2)) ⊎ (l.fields.bytes ≡ 8)
  valid_bytes = (taken_valid l t).0.byte_widths

  pub valid_eight_bytes : l.fields.bytes ≡ 8 → ((((l.fields.white ≡ false) × (l.fields.palette ≡ false)) × (l.fields.alpha ≡ 0)) × (l.fields.slots ≡ 1)) × ((l.fields.ch ≡ 1) ⊎ (l.fields.ch ≡ 3))
  valid_eight_bytes = (taken_valid l t).0.eight_bytes

  pub valid_alpha_kinds : l.fields.alpha ≤ 2
  valid_alpha_kinds = (taken_valid l t).0.alpha_kinds

  pub valid_with_alpha : (l.fields.alpha ≡ 0 → ⊥) → ((l.fields.bytes ≡ 1) × ((l.fields.ch ≡ 2) ⊎ (l.fields.ch ≡ 4))) × (l.fields.palette ≡ false)
  valid_with_alpha = (taken_valid l t).0.with_alpha

  pub valid_with_palette : l.fields.palette ≡ true → ((((l.fields.ch ≡ 3) × (l.fields.bytes ≡ 1)) × (((l.fields.slots ≡ 1) ⊎ (l.fields.slots ≡ 2)) ⊎ (l.fields.slots ≡ 8))) × (l.fields.separate ≡ false)) × (l.fields.alpha ≡ 0)
  valid_with_palette = (taken_valid l t).0.with_palette

  pub valid_without_palette : l.fields.palette ≡ false → (l.fields.slots ≡ 1) ⊎ ((((l.fields.slots ≡ 8) × (l.fields.ch ≡ 1)) × (l.fields.bytes ≡ 1)) × (l.fields.alpha ≡ 0))
  valid_without_palette = (taken_valid l t).0.without_palette

  pub valid_encoded_width : l.encoded_width ≡ (l.fields.w - 1) / l.fields.slots + 1
  valid_encoded_width = (taken_valid l t).0.encoded_width_lem

  pub valid_plane_channels : l.plane_channels ≡ pick l.fields.palette 1 (pick l.fields.separate l.fields.bytes (l.fields.ch * l.fields.bytes))
  valid_plane_channels = (taken_valid l t).0.plane_channels_lem

  pub valid_planes : l.planes ≡ pick l.fields.separate l.fields.ch 1
  valid_planes = (taken_valid l t).0.planes

  pub valid_plane_length : l.plane_len ≡ l.encoded_width * l.fields.h * l.plane_channels
  valid_plane_length = (taken_valid l t).0.plane_length_lem

  pub valid_scratch_length : l.scratch_len ≡ l.plane_len * l.planes
  valid_scratch_length = (taken_valid l t).0.scratch_length_lem

  pub valid_output_length : l.output_len ≡ l.fields.w * l.fields.h * l.fields.ch * l.fields.bytes
  valid_output_length = (taken_valid l t).0.output_length_lem

  pub valid_colors : l.colors ≡ pick (eqb l.fields.slots 8) 2 (pick (eqb l.fields.slots 2) 16 256)
  valid_colors = (taken_valid l t).0.colours

-- `index`
module _ (l : RasterLayout) (k : ℕ) where
  abbrev past : List Fault
  past = invalid (leb l.output_len k) ∷ []

  -- its premises are our refusals: it is ok exactly where they hold, within the limits; and a place past the output is Invalid
  pub index_ok_exactly : (answer : Answer ByteAt) → Indexed l k answer → Exactly (Ok (place_outcome answer)) ((Valid l × Within l) × (k < l.output_len))
  index_ok_exactly answer p = (
    λ o. let s = ok_sound (index_faults l k) (Ours.source_index l k) p o in (record_sound_valid l (sound-front (record_faults l) past s), leb-false l.output_len k (sound-here (sound_back (record_faults l) past s))),
    λ v. sound_ok (index_faults l k) (Ours.source_index l k) p (sound_more (valid_record_sound l v.0.0 v.0.1) (next (lt-leb l.output_len k v.1) none)),
  )

  pub index_record_refused : (n : ℕ) (checked : Done) (answer : Answer ByteAt) → RecordChecked l checked → outcome checked ≡ refused n → Indexed l k answer → place_outcome answer ≡ refused n
  index_record_refused n checked answer c e p =
      refused_for (index_faults l k) (Ours.source_index l k) p (first_more _ (refused-first (record_faults l) tt n (sym c ∙ e)))

  pub index_past_refused : (answer : Answer ByteAt) → Indexed l k answer → Valid l → Within l → l.output_len ≤ k → place_outcome answer ≡ refused 2
  index_past_refused answer p v t h =
      refused_for (index_faults l k) (Ours.source_index l k) p (sound_then (valid_record_sound l v t) (here (le-leb l.output_len k h)))

  pub index_is-source_index : (at : ByteAt) → Indexed l k (ResultIs.Ok at) → at.0 ≡ source_index l k
  index_is-source_index at p = value-is (index_faults l k) (Ours.source_index l k) p at.0 refl ∙ sym (source_index-same l k)

  pub index_below_scratch : (at : ByteAt) → Indexed l k (ResultIs.Ok at) → at.0 < l.scratch_len
  index_below_scratch at p = Theorems.index_below_scratch l k at p

-- what `well_formed` says of a layout besides, with step 3's limit for its largest output
module _ (l : RasterLayout) (v : Valid l) (t : Within l) where
  bytes-some : 0 < l.fields.bytes
  bytes-some = by v.byte_widths
    where
      by : ((l.fields.bytes ≡ 1) ⊎ (l.fields.bytes ≡ 2)) ⊎ (l.fields.bytes ≡ 8) → 0 < l.fields.bytes
      by (inl (inl e)) = omega arith
      by (inl (inr e)) = omega arith
      by (inr e) = omega arith

  place-some : (p s : Bool) → 0 < pick p 1 (pick s l.fields.bytes (l.fields.ch * l.fields.bytes))
  place-some true s = omega arith
  place-some false true = bytes-some
  place-some false false = mul-pos v.some.1.0 bytes-some

  few : (s : Bool) → (1 ≤ pick s l.fields.ch 1) × (pick s l.fields.ch 1 ≤ 4)
  few true = v.some.1
  few false = (omega arith, omega arith)

  pub well_formed_plane_length : 0 < l.plane_len
  well_formed_plane_length =
      let row : 0 < l.encoded_width = omega (arith, v.encoded_width_lem) in
      let place : 0 < l.plane_channels = rw v.plane_channels_lem (place-some l.fields.palette l.fields.separate) in
      rw v.plane_length_lem (mul-pos (mul-pos row v.some.0.1) place)

  pub well_formed_planes : (1 ≤ l.planes) × (l.planes ≤ 4)
  well_formed_planes = rw v.planes (few l.fields.separate)

  pub well_formed_lengths : (l.output_len ≤ byte_limit) × (l.scratch_len ≤ byte_limit)
  well_formed_lengths = (rw v.output_length_lem t.size, scratch_limited l (valid_record_sound l v t))

-- the per-byte `convert`, and `render_native`: our `render`
pub record RenderPremises (l : RasterLayout) (file raw old : List ℕ) : Type 0 where
  pub valid : Valid l
  pub within : Within l
  pub bytes : l.fields.bytes ≡ 8 → ⊥
  pub map : l.fields.palette ≡ true → l.fields.map + 6 * l.colors ≤ length file
  pub planes : l.scratch_len ≤ length raw
  pub room : l.output_len ≤ length old

module _ (l : RasterLayout) (file raw old : List ℕ) where
  abbrev further : List Fault
  further =
      unsupported (eqb l.fields.bytes 8)
      ∷ truncated (l.fields.palette && ltb (length file) (l.fields.map + 6 * l.colors))
      ∷ truncated (ltb (length raw) l.scratch_len)
      ∷ output_too_small (ltb (length old) l.output_len)
      ∷ []

  mapped : (l.fields.palette && ltb (length file) (l.fields.map + 6 * l.colors)) ≡ false → l.fields.palette ≡ true → l.fields.map + 6 * l.colors ≤ length file
  mapped e t = ltb-false (length file) (l.fields.map + 6 * l.colors) (rw t at e)

  map-fits : (l.fields.palette ≡ true → l.fields.map + 6 * l.colors ≤ length file) → (l.fields.palette && ltb (length file) (l.fields.map + 6 * l.colors)) ≡ false
  map-fits h = by l.fields.palette refl
    where
      by : (b : Bool) → l.fields.palette ≡ b → (b && ltb (length file) (l.fields.map + 6 * l.colors)) ≡ false
      by true e = le-ltb (length file) (l.fields.map + 6 * l.colors) (h e)
      by false e = refl

  premises : Sound (render_faults l file raw old) → RenderPremises l file raw old
  premises s =
      let good = record_sound_valid l (sound-front (record_faults l) further s) in
      let rest = sound_back (record_faults l) further s in
      record {
        valid = good.0;
        within = good.1;
        bytes = eqb-false l.fields.bytes 8 (sound-here rest);
        map = mapped (sound-here (sound_rest rest));
        planes = ltb-false (length raw) l.scratch_len (sound-here (sound_rest (sound_rest rest)));
        room = ltb-false (length old) l.output_len (sound-here (sound_rest (sound_rest (sound_rest rest))));
      }

  premises_sound : RenderPremises l file raw old → Sound (render_faults l file raw old)
  premises_sound r =
      sound_more (valid_record_sound l r.valid r.within)
      (next (ne_eqb l.fields.bytes 8 r.bytes) (next (map-fits r.map) (next (le-ltb (length raw) l.scratch_len r.planes) (next (le-ltb (length old) l.output_len r.room) none))))

  module _ (answer : Done) (new : List ℕ) (p : Rendered l file raw old answer new) where
    -- upstream's premises are our refusals: ok exactly where they hold, within the limits
    pub render_ok_exactly : Exactly (Ok (outcome answer)) (RenderPremises l file raw old)
    render_ok_exactly = (
      λ o. premises (ok_sound (render_faults l file raw old) tt p.answers o),
      λ r. sound_ok (render_faults l file raw old) tt p.answers (premises_sound r),
    )

    -- which refusal each is
    told : {n : ℕ} → First (render_faults l file raw old) n → outcome answer ≡ refused n
    told r = refused_for (render_faults l file raw old) tt p.answers r

    pub render_record_refused : (n : ℕ) (checked : Done) → RecordChecked l checked → outcome checked ≡ refused n → outcome answer ≡ refused n
    render_record_refused n checked c e = told (first_more further (refused-first (record_faults l) tt n (sym c ∙ e)))

    module _ (v : Valid l) (t : Within l) where
      pub render_eight_bytes-refused : l.fields.bytes ≡ 8 → outcome answer ≡ refused 1
      render_eight_bytes-refused e = told (sound_then (valid_record_sound l v t) (here (eq-eqb l.fields.bytes 8 e)))

      pub render_map-refused : (l.fields.bytes ≡ 8 → ⊥) → l.fields.palette ≡ true → length file < l.fields.map + 6 * l.colors → outcome answer ≡ refused 3
      render_map-refused b e h =
          let found : (l.fields.palette && ltb (length file) (l.fields.map + 6 * l.colors)) ≡ true = rw e (lt-ltb (length file) (l.fields.map + 6 * l.colors) h) in
          told (sound_then (valid_record_sound l v t) (later (ne_eqb l.fields.bytes 8 b) (here found)))

      pub render_planes-refused : (l.fields.bytes ≡ 8 → ⊥) → (l.fields.palette ≡ true → l.fields.map + 6 * l.colors ≤ length file) → length raw < l.scratch_len → outcome answer ≡ refused 3
      render_planes-refused b m h =
          told (sound_then (valid_record_sound l v t) (later (ne_eqb l.fields.bytes 8 b) (later (map-fits m) (here (lt-ltb (length raw) l.scratch_len h)))))

      pub render_output_refused : (l.fields.bytes ≡ 8 → ⊥) → (l.fields.palette ≡ true → l.fields.map + 6 * l.colors ≤ length file) → l.scratch_len ≤ length raw → length old < l.output_len → outcome answer ≡ refused 4
      render_output_refused b m r h =
          told (sound_then (valid_record_sound l v t) (later (ne_eqb l.fields.bytes 8 b) (later (map-fits m) (later (le-ltb (length raw) l.scratch_len r) (here (lt-ltb (length old) l.output_len h))))))

    pub render_length-kept : length new ≡ length old
    render_length-kept = length-kept (render_faults l file raw old) tt l.output_len (Render.converted l file raw) old new p (λ s. (premises s).room)

    -- byte k is upstream's `converted` of the planes' own bytes
    pub render_bytes : Ok (outcome answer) → (k : ℕ) → k < l.output_len → get_or new k 0 ≡ converted l file (take l.scratch_len raw) k
    render_bytes o k h =
        let s = sound-front (record_faults l) further (ok_sound (render_faults l file raw old) tt p.answers o) in
        bytes-written (render_faults l file raw old) tt l.output_len (Render.converted l file raw) old new p o k h
        ∙ Planes.converted-same l s raw (take l.scratch_len raw) (λ i g. sym (get_or-take l.scratch_len raw i 0 g)) file k h
        ∙ sym (layout_converted-same l file (take l.scratch_len raw) k)

    pub render_rest_kept : (k : ℕ) → l.output_len ≤ k → get_or new k 0 ≡ get_or old k 0
    render_rest_kept = rest_kept (render_faults l file raw old) tt l.output_len (Render.converted l file raw) old new p
