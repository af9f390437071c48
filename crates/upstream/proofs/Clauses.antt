-- The clauses of native_samples.rs, native_rgba.rs and adapter_bounds.rs, one lemma each, from our promise to the clause over upstream's definitions.
-- Those that refuse width 3 hold at every other width. Assumes nothing.
use Rattle.std.specs.declared.result.Result.TheVariants as ResultIs
use Prim.Native.Nat.{ℕ, ◌+◌, ◌-◌, ◌*◌, ◌/◌, ◌%◌, ◌≤◌, ◌<◌}
use mathlib.Core.Path.{◌≡◌, refl, sym, ap, ◌∙◌}
use mathlib.Core.Bool.{Bool, true, false}
use mathlib.Core.List.{List, [], ◌∷◌}
use native.Mathlib.Nat.{mul_comm, mul-one, le-div_iff_mul-le, mod-lt, mod-le}
use native.Mathlib.Omega.{arith}
use borrow.Author.Tests.{eqb-true, eqb-false, eq-eqb, ne_eqb, ltb-false, lt-ltb, le-ltb, not-false}
use lib.ListN.{length, get_or}
use lib.Dec.{eqb, ltb}
use Rattle.answer.specs.Outcome.{done, refused, pick, Sound, next, none, here, output_too_small, outcome, Answer, Done}
use Rattle.answer.proofs.Promised.{sound-here, sound_rest, sound-front, sound_more, sound_back}
use Rattle.answer.proofs.Filling.{length-table, table_at, stores_at, stores_rest}
use Rattle.words.specs.Word.{Bytes, ordered, word_at, Put}
use Rattle.words.specs.Promises.{served, read_faults, ReadWord, load_width, load_faults, LoadedWord}
use Rattle.words.proofs.Words.{word_below, word-one}
use Rattle.words.proofs.Puts.{put_length}
use Rattle.swaps.specs.Swapped.{swapped_at, swap_faults, Swapped}
use Rattle.transport.specs.Moved.{commit_faults, Committed, Reversed}
use Rattle.samples.specs.Sample.{stored_at}
use Rattle.samples.specs.declared.Strip.{Strip}
use Rattle.samples.specs.Sample as Strips
use Rattle.samples.specs.Promises.{strip_faults, convert_faults, Converted}
use Rattle.samples.proofs.Strips.{good_checked, width_fits}
use Rattle.laws.proofs.Says.{held}
use Rattle.upstream.specs.Native.{digit, width_ok, RangeOk, modulus, word, converted, Valid, reversed, value}
use Rattle.upstream.specs.Clause.{Ok, Exactly}
use Rattle.upstream.proofs.Same.{width_same, ordered_same, word16-same, word_same, modulus-same, converted-same, sound_valid, valid_sound, reversed-same}
use Rattle.upstream.proofs.Calls.{ok_sound, sound_ok, sound-value, value-is, refused_for, untouched, bytes-written, rest_kept, length-kept}

-- `width_ok_exec`
pub width_ok_exactly : (width : ℕ) (r : Bool) → (width ≡ 3 → ⊥) → r ≡ served width → r ≡ width_ok width
width_ok_exactly width r other p = p ∙ sym (width_same width other)

-- `read_word`
module _ (s : List ℕ) (at width : ℕ) (le : Bool) (other : width ≡ 3 → ⊥) where
  pub read_word_ok_exactly : (answer : Answer ℕ) → ReadWord s at width le answer → Exactly (Ok (outcome answer)) ((width_ok width ≡ true) × RangeOk (length s) at width)
  read_word_ok_exactly answer p = (to, back)
    where
      to : Ok (outcome answer) → (width_ok width ≡ true) × RangeOk (length s) at width
      to o =
          let t = ok_sound (read_faults s at width) (word_at s at width le) p o in
          (width_same width other ∙ not-false (served width) (sound-here t), ltb-false (length s) (at + width) (sound-here (sound_rest t)))

      back : (width_ok width ≡ true) × RangeOk (length s) at width → Ok (outcome answer)
      back v = sound_ok (read_faults s at width) (word_at s at width le) p (next (held (sym (width_same width other) ∙ v.0)) (next (le-ltb (length s) (at + width) v.1) none))

  -- what is read, and that it is below the modulus
  pub read_word_value : (v : ℕ) → Bytes s → ReadWord s at width le (ResultIs.Ok v) → (v ≡ word s at width le) × (v < modulus width)
  read_word_value v b p =
      let ok = ((read_word_ok_exactly (ResultIs.Ok v) p).0 (v, refl)).0 in
      let same : v ≡ word_at s at width le = value-is (read_faults s at width) (word_at s at width le) p v refl in
      (same ∙ sym (word_same s at width le ok), rw (modulus-same width ok, same) (word_below s at width le b))

-- `store`
module _ (old : List ℕ) (at width : ℕ) (le : Bool) (v : ℕ) (new : List ℕ) (p : Put old at width le v new) where
  pub store_length-kept : length new ≡ length old
  store_length-kept = put_length old at width le v new p

  pub store_bytes : at + width ≤ length old → (j : ℕ) → j < width → get_or new (at + j) 0 ≡ digit v (pick le j (width - 1 - j))
  store_bytes room j h = rw p (stores_at old at width (λ q. digit v (ordered le width q)) j h room ∙ ap (digit v) (sym (ordered_same le width j)))

  pub store_rest_kept : (k : ℕ) → (at ≤ k → at + width ≤ k) → get_or new k 0 ≡ get_or old k 0
  store_rest_kept k away = rw p (stores_rest old at width _ k away)

-- `convert`
module _ (raw : List ℕ) (g : Strip) (predict le out_le : Bool) (old : List ℕ) (answer : Done) (new : List ℕ) (p : Converted raw g predict le out_le old answer new) where
  room : Sound (convert_faults raw g old) → length raw ≤ length old
  room s = ltb-false (length old) (length raw) (sound-here (sound_back (strip_faults (length raw) g) (output_too_small (ltb (length old) (length raw)) ∷ []) s))

  strip-sound : Sound (convert_faults raw g old) → Sound (strip_faults (length raw) g)
  strip-sound s = sound-front (strip_faults (length raw) g) (output_too_small (ltb (length old) (length raw)) ∷ []) s

  pub convert_ok_exactly : (g.width ≡ 3 → ⊥) → Exactly (Ok (outcome answer)) (Valid raw g.row g.channels g.width × (length raw ≤ length old))
  convert_ok_exactly other = (
    λ o. let s = ok_sound (convert_faults raw g old) tt p.answers o in (sound_valid raw g other (strip-sound s), room s),
    λ v. sound_ok (convert_faults raw g old) tt p.answers (sound_more (valid_sound raw g v.0) (next (le-ltb (length old) (length raw) v.1) none)),
  )

  pub convert_length-kept : length new ≡ length old
  convert_length-kept = length-kept (convert_faults raw g old) tt (length raw) (stored_at g.width out_le (Strips.sample g predict le raw)) old new p room

  pub convert_bytes : (g.width ≡ 3 → ⊥) → Ok (outcome answer) → (k : ℕ) → k < length raw → get_or new k 0 ≡ converted raw (g.row / g.width) g.channels g.width le predict out_le k
  convert_bytes other o k h =
      let s = strip-sound (ok_sound (convert_faults raw g old) tt p.answers o) in
      let good = good_checked (length raw) g s in
      let words : 0 < g.row / g.width = (le-div_iff_mul-le good.wide).1 (omega (arith, width_fits (length raw) g good)) in
      bytes-written (convert_faults raw g old) tt (length raw) (stored_at g.width out_le (Strips.sample g predict le raw)) old new p o k h
      ∙ sym (converted-same g predict le raw (sound_valid raw g other s).width good.channel words out_le k)

  pub convert_rest_kept : (k : ℕ) → length raw ≤ k → get_or new k 0 ≡ get_or old k 0
  convert_rest_kept = rest_kept (convert_faults raw g old) tt (length raw) (stored_at g.width out_le (Strips.sample g predict le raw)) old new p

-- `reverse_bits`
module _ (old new : List ℕ) (p : Reversed old new) where
  pub reverse-length-kept : length new ≡ length old
  reverse-length-kept = rw p (length-table (length old) _)

  pub reverse-bytes : (k : ℕ) → k < length old → get_or new k 0 ≡ reversed (get_or old k 0)
  reverse-bytes k h = rw p (table_at (length old) _ k h ∙ sym (reversed-same (get_or old k 0)))

-- `swap_components`
module _ (raw : List ℕ) (width : ℕ) (old : List ℕ) (answer : Done) (new : List ℕ) (p : Swapped raw width old answer new) where
  swap_room : Sound (swap_faults raw width old) → length raw ≤ length old
  swap_room s = ltb-false (length old) (length raw) (sound-here (sound_rest (sound_rest (sound_rest s))))

  pub swap_ok_exactly : Exactly (Ok (outcome answer)) ((((0 < width) × (width ≤ 8)) × (length raw % width ≡ 0)) × (length raw ≤ length old))
  swap_ok_exactly = (to, back)
    where
      to : Ok (outcome answer) → (((0 < width) × (width ≤ 8)) × (length raw % width ≡ 0)) × (length raw ≤ length old)
      to o =
          let s = ok_sound (swap_faults raw width old) tt p.answers o in
          (((omega (arith, eqb-false width 0 (sound-here s)), ltb-false 8 width (sound-here (sound_rest s))), eqb-true (length raw % width) 0 (not-false (eqb (length raw % width) 0) (sound-here (sound_rest (sound_rest s))))), swap_room s)

      back : (((0 < width) × (width ≤ 8)) × (length raw % width ≡ 0)) × (length raw ≤ length old) → Ok (outcome answer)
      back v =
          sound_ok (swap_faults raw width old) tt p.answers
          (next (ne_eqb width 0 (λ e. omega (arith, v.0.0.0))) (next (le-ltb 8 width v.0.0.1) (next (held (eq-eqb (length raw % width) 0 v.0.1)) (next (le-ltb (length old) (length raw) v.1) none))))

  pub swap_length-kept : length new ≡ length old
  swap_length-kept = length-kept (swap_faults raw width old) tt (length raw) (swapped_at raw width) old new p swap_room

  pub swap_bytes : Ok (outcome answer) → (k : ℕ) → k < length raw → get_or new k 0 ≡ get_or raw (k - k % width + width - 1 - k % width) 0
  swap_bytes o k h =
      let some = (swap_ok_exactly.0 o).0.0.0 in
      bytes-written (swap_faults raw width old) tt (length raw) (swapped_at raw width) old new p o k h
      ∙ ap (λ (i : ℕ). get_or raw i 0) (omega (arith, mod-lt k some, mod-le k width))

  pub swap_rest_kept : (k : ℕ) → length raw ≤ k → get_or new k 0 ≡ get_or old k 0
  swap_rest_kept = rest_kept (swap_faults raw width old) tt (length raw) (swapped_at raw width) old new p

-- `load`
module _ (s : List ℕ) (i : ℕ) (wide le : Bool) where
  -- upstream's premise is our only refusal
  pub load_premise_refused : (answer : Answer ℕ) → LoadedWord s i wide le answer → length s < (i + 1) * pick wide 2 1 → outcome answer ≡ refused 3
  load_premise_refused answer p h = refused_for (load_faults s i wide) _ p (here (lt-ltb (length s) ((i + 1) * load_width wide) h))

  value_same : word_at s (i * load_width wide) (load_width wide) le ≡ value s i wide le
  value_same = by wide
    where
      by : (b : Bool) → word_at s (i * load_width b) (load_width b) le ≡ value s i b le
      by true = rw (mul_comm i 2) (sym (word16-same s (2 * i) le))
      by false = rw (mul-one i) (word-one s i le)

  pub load_value : (answer : Answer ℕ) → LoadedWord s i wide le answer → (i + 1) * pick wide 2 1 ≤ length s → outcome answer ≡ done (value s i wide le)
  load_value answer p h =
      sound-value (load_faults s i wide) _ p (next (le-ltb (length s) ((i + 1) * load_width wide) h) none) ∙ ap done value_same

  pub load_at-most : (v : ℕ) → Bytes s → LoadedWord s i wide le (ResultIs.Ok v) → v ≤ pick wide 65535 255
  load_at-most v b p = rw (value-is (load_faults s i wide) _ p v refl) (by wide)
    where
      by : (c : Bool) → word_at s (i * load_width c) (load_width c) le ≤ pick c 65535 255
      by true = omega (arith, word_below s (i * 2) 2 le b)
      by false = omega (arith, word_below s (i * 1) 1 le b)

-- `commit_uninit`
module _ (source old : List ℕ) (answer : Done) (new : List ℕ) (p : Committed source old answer new) where
  commit_room : Sound (commit_faults source old) → length source ≤ length old
  commit_room s = ltb-false (length old) (length source) (sound-here s)

  pub commit_ok_exactly : Exactly (Ok (outcome answer)) (length source ≤ length old)
  commit_ok_exactly = (
    λ o. commit_room (ok_sound (commit_faults source old) tt p.answers o),
    λ h. sound_ok (commit_faults source old) tt p.answers (next (le-ltb (length old) (length source) h) none),
  )

  pub commit_length-kept : length new ≡ length old
  commit_length-kept = length-kept (commit_faults source old) tt (length source) (λ k. get_or source k 0) old new p commit_room

  pub commit_refusal_keeps : (n : ℕ) → outcome answer ≡ refused n → new ≡ old
  commit_refusal_keeps = untouched (commit_faults source old) tt (length source) (λ k. get_or source k 0) old new p

  pub commit_bytes : Ok (outcome answer) → (i : ℕ) → i < length source → get_or new i 0 ≡ get_or source i 0
  commit_bytes = bytes-written (commit_faults source old) tt (length source) (λ k. get_or source k 0) old new p

  pub commit_rest_kept : (i : ℕ) → length source ≤ i → get_or new i 0 ≡ get_or old i 0
  commit_rest_kept = rest_kept (commit_faults source old) tt (length source) (λ k. get_or source k 0) old new p
