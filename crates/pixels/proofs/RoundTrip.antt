-- The two calls undo each other: rendering what was written gives the picture, and writing what was rendered gives the planes, but for bilevel padding
-- bits, which become 0. Assumes nothing.
use Rattle.std.specs.Prelude.{Ok}
use Prim.Native.Nat.{ℕ, zero, suc, ◌-◌, ◌/◌, ◌%◌, ◌^◌, ◌≤◌, ◌<◌}
use mathlib.Core.Path.{◌≡◌, refl, sym, ap, subst, ◌∙◌}
use mathlib.Core.Logic.{◌⊎◌, inl, inr}
use mathlib.Core.Bool.{Bool, true, false, not, ◌&&◌}
use mathlib.Core.List.{List}
use native.Mathlib.Omega.{arith}
use borrow.Author.Tests.{ltb-false, le-ltb}
use lib.ListN.{length, get_or, take}
use lib.Dec.{eqb}
use Rattle.answer.specs.Outcome.{Sound, next, none, done, pick, xor, Done}
use Rattle.answer.specs.Table.{table}
use Rattle.answer.proofs.Promised.{writes, stays, done-sound, sound-done, answer_once, sound-front, sound-here, sound_rest, sound_back, sound_more}
use Rattle.answer.proofs.Filling.{length-table, table_at, table_same}
use Rattle.words.specs.Word.{Bytes}
use Rattle.layout.specs.declared.RasterLayout.{RasterLayout}
use Rattle.layout.specs.Layout.{record_faults}
use Rattle.laws.proofs.Lists.{front_at, own_front}
use Rattle.laws.proofs.Picks.{picked, not_picked}
use Rattle.laws.proofs.Says.{held, up, equal, both, either}
use Rattle.pixels.specs.Render.{source, converted, draw_faults, render_faults, Rendered}
use Rattle.pixels.specs.Planes.{two_levels, written, plane_faults, write_faults, Written, unpadded}
use Rattle.pixels.proofs.Undo.{render_written, write_rendered}
use Rattle.pixels.proofs.Same.{converted-same, written_same}

-- a byte that is one of two levels
level_of : (b : Bool) {v : ℕ} → v ≡ pick b 0 255 → (v ≡ 0) ⊎ (v ≡ 255)
level_of true e = inl e
level_of false e = inr e

-- and a picture of such bytes
levels_all : (n : ℕ) (picture : List ℕ) → ((k : ℕ) → k < n → (get_or picture k 0 ≡ 0) ⊎ (get_or picture k 0 ≡ 255)) → two_levels n picture ≡ true
levels_all zero picture all = refl
levels_all (suc n) picture all =
    (both (up (two_levels n picture)) (either (equal (get_or picture n 0) 0) (equal (get_or picture n 0) 255))).told (levels_all n picture (λ k h. all k (omega arith)), all n (omega arith))

-- what a call that wrote has shown
module _ (l : RasterLayout) (picture old planes : List ℕ) (w : Written l picture old (Ok tt) planes) where
  sound : Sound (write_faults l picture old)
  sound = done-sound (write_faults l picture old) tt tt (sym w.answers)

  record_sound : Sound (record_faults l)
  record_sound = sound-front (record_faults l) (plane_faults l picture old) sound

  planes-sound : Sound (plane_faults l picture old)
  planes-sound = sound_back (record_faults l) (plane_faults l picture old) sound

  no_palette : l.fields.palette ≡ false
  no_palette = sound-here planes-sound

  not_multiplied : eqb l.fields.alpha 1 ≡ false
  not_multiplied = sound-here (sound_rest (sound_rest planes-sound))

  picture_long : l.output_len ≤ length picture
  picture_long = ltb-false (length picture) l.output_len (sound-here (sound_rest (sound_rest (sound_rest planes-sound))))

  two_levels_lem : (eqb l.fields.slots 8 && not (two_levels l.output_len picture)) ≡ false
  two_levels_lem = sound-here (sound_rest (sound_rest (sound_rest (sound_rest (sound_rest planes-sound)))))

  planes-front : take l.scratch_len planes ≡ table l.scratch_len (written l picture)
  planes-front = ap (λ (n : ℕ). take n planes) (sym (length-table l.scratch_len (written l picture))) ∙ writes tt planes w

picture_front : (l : RasterLayout) (file raw old out : List ℕ) → Rendered l file raw old (Ok tt) out → take l.output_len out ≡ table l.output_len (converted l file raw)
picture_front l file raw old out r = ap (λ (n : ℕ). take n out) (sym (length-table l.output_len (converted l file raw))) ∙ writes tt out r

module _ (l : RasterLayout) (file : List ℕ) where
  -- what writing has shown is all that rendering asks of the planes
  written_renderable : (picture old planes old_out : List ℕ) → Written l picture old (Ok tt) planes → l.output_len ≤ length old_out → Sound (render_faults l file planes old_out)
  written_renderable picture old planes old_out w room =
      let shown = planes-sound l picture old planes w in
      let fits = ltb-false (length old) l.scratch_len (sound-here (sound_rest (sound_rest (sound_rest (sound_rest shown))))) in
      let same = stays (done tt) planes (omega (arith, length-table l.scratch_len (written l picture))) w in
      sound_more (record_sound l picture old planes w)
      (next (sound-here (sound_rest shown))
      (next (rw (no_palette l picture old planes w))
      (next (le-ltb (length planes) l.scratch_len (omega arith)) (next (le-ltb (length old_out) l.output_len room) none))))

  -- so rendering what was written succeeds, where there is room, and gives the picture back
  pub written_then_rendered : (picture old planes old_out out : List ℕ) (answer : Done) → Bytes picture → l.output_len ≤ length old_out → Written l picture old (Ok tt) planes → Rendered l file planes old_out answer out → (answer ≡ (Ok tt)) × (take l.output_len out ≡ take l.output_len picture)
  written_then_rendered picture old planes old_out out answer bytes room w r = (done-here, picture_is)
    where
      done-here : answer ≡ (Ok tt)
      done-here = answer_once answer (Ok tt) (r.answers ∙ sound-done tt (written_renderable picture old planes old_out w room))

      wrote : (i : ℕ) → i < l.scratch_len → get_or planes i 0 ≡ get_or (table l.scratch_len (written l picture)) i 0
      wrote i h = front_at l.scratch_len (written l picture) planes (planes-front l picture old planes w) i h ∙ sym (table_at l.scratch_len (written l picture) i h)

      picture_is : take l.output_len out ≡ take l.output_len picture
      picture_is =
          let s = record_sound l picture old planes w in
          picture_front l file planes old_out out (subst (λ (a : Done). Rendered l file planes old_out a out) done-here r)
          ∙ table_same l.output_len _ _ (λ k h.
          converted-same l s planes (table l.scratch_len (written l picture)) wrote file k h
          ∙ render_written l s (no_palette l picture old planes w) (not_multiplied l picture old planes w) file picture k h bytes (two_levels_lem l picture old planes w))
          ∙ own_front l.output_len picture (picture_long l picture old planes w)

  -- what rendering has shown of a picture is all that writing asks of it, the look for two levels included
  module _ (raw old out : List ℕ) (r : Rendered l file raw old (Ok tt) out) where
    rendered_sound : Sound (render_faults l file raw old)
    rendered_sound = done-sound (render_faults l file raw old) tt tt (sym r.answers)

    record_held : Sound (record_faults l)
    record_held = sound-front (record_faults l) (draw_faults l (length file) (length raw) (length old)) rendered_sound

    draw_sound : Sound (draw_faults l (length file) (length raw) (length old))
    draw_sound = sound_back (record_faults l) (draw_faults l (length file) (length raw) (length old)) rendered_sound

    rendered_at : (k : ℕ) → k < l.output_len → get_or out k 0 ≡ converted l file raw k
    rendered_at = front_at l.output_len (converted l file raw) out (picture_front l file raw old out r)

    rendered_long : l.output_len ≤ length out
    rendered_long =
        let room = ltb-false (length old) l.output_len (sound-here (sound_rest (sound_rest (sound_rest draw_sound)))) in
        let same = stays (done tt) out (omega (arith, length-table l.output_len (converted l file raw))) r in omega arith

    rendered_levels : l.fields.palette ≡ false → (eqb l.fields.slots 8 && not (two_levels l.output_len out)) ≡ false
    unfolding converted
    rendered_levels off = by (eqb l.fields.slots 8) refl
      where
        by : (b : Bool) → eqb l.fields.slots 8 ≡ b → (b && not (two_levels l.output_len out)) ≡ false
        by false e = refl
        by true e =
            held (levels_all l.output_len out (λ k h.
            level_of (xor (eqb (source l raw k / 2 ^ (7 - k % l.fields.w % 8) % 2) 0) l.fields.white) (rendered_at k h ∙ not_picked _ _ off ∙ picked _ _ e)))

    pub rendered_writable : (old_planes : List ℕ) → l.fields.palette ≡ false → eqb l.fields.alpha 1 ≡ false → l.scratch_len ≤ length old_planes → Sound (write_faults l out old_planes)
    rendered_writable old_planes off bare room =
        sound_more record_held
        (next off
        (next (sound-here draw_sound)
        (next bare
        (next (le-ltb (length out) l.output_len rendered_long) (next (le-ltb (length old_planes) l.scratch_len room) (next (rendered_levels off) none))))))

  -- so writing what was rendered succeeds, where there is room, and gives the planes back
  pub rendered_then_written : (raw old out old_planes planes : List ℕ) (answer : Done) → Bytes raw → l.fields.palette ≡ false → eqb l.fields.alpha 1 ≡ false → l.scratch_len ≤ length old_planes → Rendered l file raw old (Ok tt) out → Written l out old_planes answer planes → (answer ≡ (Ok tt)) × (take l.scratch_len planes ≡ table l.scratch_len (unpadded l raw))
  rendered_then_written raw old out old_planes planes answer bytes off bare room r w = (done-here, planes_are)
    where
      done-here : answer ≡ (Ok tt)
      done-here = answer_once answer (Ok tt) (w.answers ∙ sound-done tt (rendered_writable raw old out r old_planes off bare room))

      wrote : Written l out old_planes (Ok tt) planes
      wrote = subst (λ (a : Done). Written l out old_planes a planes) done-here w

      shown : (k : ℕ) → k < l.output_len → get_or out k 0 ≡ get_or (table l.output_len (converted l file raw)) k 0
      shown k h = rendered_at raw old out r k h ∙ sym (table_at l.output_len (converted l file raw) k h)

      planes_are : take l.scratch_len planes ≡ table l.scratch_len (unpadded l raw)
      planes_are =
          let s = record_held raw old out r in
          planes-front l out old_planes planes wrote
          ∙ table_same l.scratch_len _ _ (λ i h.
          written_same l s off out (table l.output_len (converted l file raw)) shown i h ∙ write_rendered l s off bare file raw i h bytes)

  -- and where no bits are padding, the planes themselves
  pub rendered_then_written-plain : (raw old out old_planes planes : List ℕ) (answer : Done) → Bytes raw → l.fields.palette ≡ false → eqb l.fields.alpha 1 ≡ false → eqb l.fields.slots 8 ≡ false → l.scratch_len ≤ length old_planes → Rendered l file raw old (Ok tt) out → Written l out old_planes answer planes → (answer ≡ (Ok tt)) × (take l.scratch_len planes ≡ take l.scratch_len raw)
  unfolding unpadded
  rendered_then_written-plain raw old out old_planes planes answer bytes off bare several room r w =
      let both = rendered_then_written raw old out old_planes planes answer bytes off bare room r w in
      let long = ltb-false (length raw) l.scratch_len (sound-here (sound_rest (sound_rest (draw_sound raw old out r)))) in
      (both.0, both.1 ∙ table_same l.scratch_len _ _ (λ i h. not_picked _ _ several) ∙ own_front l.scratch_len raw long)
