-- A written file has no fault that the reader looks for, and its tags say its layout. Assumes nothing.
use Prim.Native.Nat.{ℕ, ◌≤◌}
use mathlib.Core.Path.{◌≡◌, refl, ap, ◌∙◌}
use mathlib.Core.Bool.{Bool, true, false, not, ◌&&◌, ◌||◌}
use mathlib.Core.List.{List}
use mathlib.Core.Logic.{⊎_elim}
use native.Mathlib.Omega.{arith}
use borrow.Author.Tests.{le-ltb, eq-eqb, ne_eqb}
use lib.ListN.{length}
use lib.Dec.{eqb, ltb}
use Rattle.answer.specs.Outcome.{pick, Sound, none, next}
use Rattle.answer.proofs.Promised.{sound_more}
use Rattle.laws.specs.Turns.{every}
use Rattle.laws.proofs.Says.{held}
use Rattle.laws.proofs.Turns.{every-all}
use Rattle.layout.specs.declared.Fields.{Fields}
use Rattle.layout.specs.Layout.{scratch_length, planes}
use Rattle.layout.proofs.Accepted.{Accepted}
use Rattle.entries.specs.declared.Directory.{Directory}
use Rattle.entries.specs.Entries.{value_of, field_of}
use Rattle.tags.specs.Tags.{shape_of, split_of, extras_of, depth_of, bits_faults, served_compression, shape_faults, samples_of, strips_of, samples_faults, planar_faults, split_faults, predictor_faults, map_faults, extra_faults, extras_faults, fields_by, tags_by, tags_of, depth, said_faults}
use Rattle.files.specs.File.{strips, bits_of, photometric, planar, file_of, without_map}
use Rattle.files.specs.Parts.{Fit}
use Rattle.files.proofs.Sizes.{fields_accepted, strips-some}
use Rattle.files.proofs.Layouts.{Kind, alphas, bits_mean, coloured}
use Rattle.files.proofs.Reading.{written}
use Rattle.files.proofs.Used.{sure_sound, kind, width, height, bits, compression, colours, offsets, samples, rows, counts, apart, predictor, extra}

module _ (f : Fields) (each : ℕ) (raw : List ℕ) (fit : Fit f each) (all : scratch_length f ≤ length raw) where
  abbrev file : List ℕ
  file = file_of f each raw

  abbrev d : Directory
  d = written f

  a : Accepted f
  a = fields_accepted f each fit

  k : Kind f
  k = kind f each raw fit all

  depth_is : depth file d ≡ bits_of f
  unfolding depth_of shape_of
  depth_is =
      let b = bits f each raw fit all in
      let g = field_of file d 258 1 in ap (λ (t : Bool). pick t (value_of file true g 0) g.value) b.0.there ∙ b.1 0 a.some

  bits_sound : Sound (bits_faults file true (shape_of file d).bits)
  unfolding bits_faults shape_of
  bits_sound =
      let b = bits f each raw fit all in
      let g = field_of file d 258 1 in
      let same : every g.count (λ j. eqb (value_of file true g j) (value_of file true g 0)) ≡ true = every-all g.count _ (λ j h. rw (b.1 j (rw b.0.count at h), b.1 0 a.some) (eq-eqb (bits_of f) (bits_of f) refl)) in
      let unequal : (g.there && not (every g.count (λ j. eqb (value_of file true g j) (value_of file true g 0)))) ≡ false = rw (same, b.0.there) in
      sound_more (sure_sound false false true b.0 refl (rw (ne_eqb f.ch 0 (λ z. omega (arith, a.some))))) (next unequal (next (rw depth_is (held (bits_mean f k.samples).1.0)) none))

  shape_sound : Sound (shape_faults file true (shape_of file d))
  unfolding shape_faults shape_of
  shape_sound =
      let other : not (served_compression (field_of file d 259 1).value) ≡ false = rw (compression f each raw fit all).value in
      let unknown : ltb 3 (field_of file d 262 0).value ≡ false = rw (colours f each raw fit all).value (le-ltb 3 (photometric f) (omega (arith, (coloured f k.channels).few))) in
      sound_more (sure_sound true true false (width f each raw fit all).sure refl refl)
      (sound_more (sure_sound true true false (height f each raw fit all).sure refl refl)
      (sound_more bits_sound
      (sound_more (sure_sound false false false (compression f each raw fit all).sure refl refl)
      (next other (sound_more (sure_sound true false false (colours f each raw fit all).sure refl refl) (next unknown none))))))

  planes_said : pick (eqb (planar f) 2) f.ch 1 ≡ planes f
  unfolding planar planes
  planes_said = by f.separate
    where
      by : (b : Bool) → pick (eqb (pick b 2 1) 2) f.ch 1 ≡ pick b f.ch 1
      by true = refl
      by false = refl

  planar-known : not (eqb (planar f) 1 || eqb (planar f) 2) ≡ false
  unfolding planar
  planar-known = by f.separate
    where
      by : (b : Bool) → not (eqb (pick b 2 1) 1 || eqb (pick b 2 1) 2) ≡ false
      by true = refl
      by false = refl

  -- some strips
  some : (true && eqb (strips f each) 0 || not true && not (eqb (strips f each) 1)) ≡ false
  some = rw (ne_eqb (strips f each) 0 (λ z. omega (arith, strips-some f each fit)))

  samples_sound : Sound (samples_faults (length file) (shape_of file d) (split_of file d).samples)
  unfolding samples_faults shape_of split_of
  samples_sound =
      let n = samples f each raw fit all in
      let unequal : not (eqb (field_of file d 277 1).value (field_of file d 258 1).count) ≡ false = rw (n.value, (bits f each raw fit all).0.count) (held (eq-eqb f.ch f.ch refl)) in
      sound_more (sure_sound false false false n.sure refl refl)
      (next unequal (next (rw (n.value, (colours f each raw fit all).value) (held (coloured f k.channels).either)) none))

  planar-sound : Sound (planar_faults (length file) (shape_of file d) (split_of file d))
  unfolding planar_faults shape_of split_of strips_of strips
  planar-sound =
      let p = apart f each raw fit all in
      let number : not (eqb (field_of file d 273 0).count (strips_of (field_of file d 257 0).value (split_of file d))) ≡ false = rw ((offsets f each raw fit all).0.count, (height f each raw fit all).value, (rows f each raw fit all).1, p.value, (samples f each raw fit all).value, planes_said) (held (eq-eqb (strips f each) (strips f each) refl)) in
      sound_more (sure_sound false false false p.sure refl refl) (next (rw p.value planar-known) (next number none))

  split_sound : Sound (split_faults (length file) (shape_of file d) (split_of file d))
  unfolding split_faults split_of
  split_sound =
      let places = offsets f each raw fit all in
      let sizes = counts f each raw fit all in
      let none_each : eqb (field_of file d 278 4294967295).value 0 ≡ false = rw (rows f each raw fit all).1 (ne_eqb each 0 (λ z. omega (arith, fit.some))) in
      let unequal : not (eqb (field_of file d 279 0).count (field_of file d 273 0).count) ≡ false = rw (sizes.0.count, places.0.count) (held (eq-eqb (strips f each) (strips f each) refl)) in
      sound_more (sure_sound true true true places.0 refl some)
      (sound_more samples_sound
      (sound_more (sure_sound false true false (rows f each raw fit all).0 refl refl)
      (next none_each (sound_more (sure_sound true true true sizes.0 refl some) (next unequal planar-sound)))))

  -- the extra sample
  extra_sound : Sound (extra_faults (length file) (shape_of file d) (split_of file d) (extras_of file d).extra)
  unfolding extra_faults shape_of split_of extras_of
  extra_sound =
      let x = extra f each raw fit all in
      let unequal : not (eqb (field_of file d 277 1).value (samples_of (field_of file d 262 0).value (field_of file d 338 0).there)) ≡ false = rw ((samples f each raw fit all).value, (colours f each raw fit all).value, x.there, (coloured f k.channels).has) (held (eq-eqb f.ch f.ch refl)) in
      let known : (not (eqb f.alpha 0) && not (eqb f.alpha 1 || eqb f.alpha 2)) ≡ false = ⊎_elim (λ z. rw z) (λ z. rw z) (alphas k.channels) in
      sound_more x.sound (next (rw (x.there, x.value) known) (next unequal none))

  not_palette : eqb (field_of file d 262 0).value 3 ≡ false
  not_palette = rw (colours f each raw fit all).value (ne_eqb (photometric f) 3 (λ z. omega (arith, (coloured f k.channels).few)))

  extras_sound : Sound (extras_faults (length file) (shape_of file d) (split_of file d) (depth file d) (extras_of file d))
  unfolding extras_faults predictor_faults map_faults shape_of extras_of
  extras_sound =
      let p = predictor f each raw fit all in
      let no_map : Sound (map_faults (length file) (shape_of file d) (depth file d) (extras_of file d).map) = rw not_palette none in
      sound_more (sound_more (sure_sound false false false p.sure refl refl) (next (rw p.value) none)) (sound_more no_map extra_sound)

  pub said_sound : Sound (said_faults file d)
  unfolding said_faults
  said_sound = sound_more shape_sound (sound_more split_sound extras_sound)

  -- what the tags say
  planar-back : eqb (planar f) 2 ≡ f.separate
  unfolding planar
  planar-back = by f.separate
    where
      by : (b : Bool) → eqb (pick b 2 1) 2 ≡ b
      by true = refl
      by false = refl

  pub tags_back : tags_of file d ≡ record { fields = without_map f; predictor = 1; compression = 1; rows = f.h; each = each; offsets = field_of file d 273 0; counts = field_of file d 279 0 }
  unfolding tags_by fields_by shape_of split_of extras_of
  tags_back =
      let means = (bits_mean f k.samples).0 in
      rw (depth_is, not_palette, (width f each raw fit all).value, (height f each raw fit all).value, (samples f each raw fit all).value, (colours f each raw fit all).value, (rows f each raw fit all).1, (apart f each raw fit all).value, (predictor f each raw fit all).value, (compression f each raw fit all).value, (extra f each raw fit all).value, means.0, means.1, planar-back, (coloured f k.channels).white, k.plain, k.little)
