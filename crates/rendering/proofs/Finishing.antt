-- A row once its bytes stand in the picture's order: what the bytes come to, and that they are the rendered ones. Assumes nothing.
use Prim.Native.Nat.{ℕ, ◌+◌, ◌-◌, ◌*◌, ◌/◌, ◌%◌, ◌≤◌, ◌<◌}
use mathlib.Core.Path.{◌≡◌, refl, sym, ap, ◌∙◌}
use mathlib.Core.Bool.{Bool, true, false, not, ◌&&◌}
use mathlib.Core.List.{List}
use native.Mathlib.Nat.{add-mul, one-mul, mul-one, mul_assoc, mul-mod_left, mul-le-mul_right, mul-add-mod_self_right, div-add-mod', div-lt_iff_lt-mul, mod-le}
use native.Mathlib.Omega.{arith}
use borrow.Author.Tests.{eq-eqb, ne_eqb, eqb-false}
use lib.ListN.{length, get_or}
use lib.Dec.{eqb}
use Rattle.answer.specs.Outcome.{pick, next, none, Done}
use Rattle.answer.specs.Table.{table}
use Rattle.answer.proofs.Promised.{finished}
use Rattle.answer.proofs.Filling.{length-table, table_at, table_same, table_self, filled-all}
use Rattle.layout.specs.declared.RasterLayout.{RasterLayout}
use Rattle.layout.proofs.Whole.{record_accepted}
use Rattle.pixels.specs.Render.{row_bytes, flipped, straight_colour, source, plain_byte}
use Rattle.pixels.specs.Finish.{Inverted, straight_at, straight_faults, Straightened}
use Rattle.laws.proofs.Picks.{pick_same}
use Rattle.rendering.specs.Rows.{PlainRowAsked, WholeRow, finished_at, Finished, Gathered, PlainRendered}

module _ (l : RasterLayout) (old : List ℕ) where
  straight_same : (j : ℕ) → eqb l.fields.alpha 0 ≡ false → straight_at old l.fields.ch (eqb l.fields.alpha 1) l.fields.white j ≡ finished_at l old j
  straight_same j e = rw e (by (eqb (j % l.fields.ch) (l.fields.ch - 1)) l.fields.white)
    where
      by : (last white : Bool) → pick last (get_or old j 0) (straight_colour (eqb l.fields.alpha 1) l.fields.white (get_or old j 0) (get_or old (j - j % l.fields.ch + l.fields.ch - 1) 0)) ≡ pick (not last) (straight_colour (eqb l.fields.alpha 1) l.fields.white (get_or old j 0) (get_or old (j - j % l.fields.ch + l.fields.ch - 1) 0)) (flipped (white && false) (get_or old j 0))
      by true true = refl
      by true false = refl
      by false white = refl

  pub straight_finished : WholeRow l old → eqb l.fields.alpha 0 ≡ false → (multiplied white : Bool) → eqb l.fields.alpha 1 ≡ multiplied → l.fields.white ≡ white → (answer : Done) (new : List ℕ) → Straightened old l.fields.ch multiplied white answer new → Finished l old new
  straight_finished whole e multiplied white m w answer new given_p =
      let p : Straightened old l.fields.ch (eqb l.fields.alpha 1) l.fields.white answer new = rw (m, w) given_p in
      finished (straight_faults old l.fields.ch) tt (length old) (straight_at old l.fields.ch (eqb l.fields.alpha 1) l.fields.white) old new (next (ne_eqb l.fields.ch 0 (omega (arith, whole.some))) (next (ap not (eq-eqb _ _ (whole.pixels e))) none)) p
      ∙ filled-all (length old) _ old (omega arith)
      ∙ table_same (length old) _ _ (λ j h. straight_same j e)

  pub inverted_finished : eqb l.fields.alpha 0 ≡ true → l.fields.white ≡ true → (new : List ℕ) → Inverted old new → Finished l old new
  inverted_finished e white new p = p ∙ table_same (length old) _ _ (λ j h. sym (inverted_at j))
    where
      inverted_at : (j : ℕ) → finished_at l old j ≡ 255 - get_or old j 0
      inverted_at j = rw (e, white)

  -- neither white nor colours multiplied by alpha
  pub same_finished : eqb l.fields.alpha 1 ≡ false → l.fields.white ≡ false → Finished l old old
  same_finished e white = sym (table_same (length old) _ _ (λ j h. as_is j) ∙ table_self old)
    where
      as_is : (j : ℕ) → finished_at l old j ≡ get_or old j 0
      as_is j = rw (e, white) (pick_same (not (eqb l.fields.alpha 0) && not (eqb (j % l.fields.ch) (l.fields.ch - 1))) (get_or old j 0))

module _ {l : RasterLayout} {raw : List ℕ} {y : ℕ} {out : List ℕ} (row : PlainRowAsked l raw y out) where
  -- beside alpha a channel is one byte
  one_byte : eqb l.fields.alpha 0 ≡ false → row_bytes l ≡ l.fields.w * l.fields.ch
  one_byte e =
      let one : l.fields.bytes ≡ 1 = ((record_accepted l row.sound).covered (eqb-false l.fields.alpha 0 e)).0.0 in
      ap (λ (n : ℕ). l.fields.w * (l.fields.ch * n)) one ∙ ap (λ (n : ℕ). l.fields.w * n) (mul-one l.fields.ch)

  whole_row : (mid : List ℕ) → length mid ≡ length out → WholeRow l mid
  whole_row mid same =
      record {
        some = (record_accepted l row.sound).some;
        pixels = λ e. ap (λ (n : ℕ). n % l.fields.ch) (same ∙ row.room ∙ one_byte e) ∙ mul-mod_left l.fields.w l.fields.ch;
      }

  pub whole_gathered : (mid : List ℕ) → Gathered l raw y out mid → WholeRow l mid
  whole_gathered mid g = whole_row mid (ap length g ∙ length-table (length out) _)

  pub plain_rendered : (mid new : List ℕ) → Gathered l raw y out mid → Finished l mid new → PlainRendered l raw y out new
  unfolding plain_byte
  plain_rendered mid new g p = p ∙ ap (λ (n : ℕ). table n (finished_at l mid)) same ∙ table_same (length out) _ _ (λ j h. each j h (eqb l.fields.alpha 0) refl)
    where
      same : length mid ≡ length out
      same = ap length g ∙ length-table (length out) _

      from : ℕ
      from = y * row_bytes l

      gathered : (i : ℕ) → i < length out → get_or mid i 0 ≡ source l raw (from + i)
      gathered i h = ap (λ (m : List ℕ). get_or m i 0) g ∙ table_at (length out) _ i h

      each : (j : ℕ) → j < length out → (b : Bool) → eqb l.fields.alpha 0 ≡ b → finished_at l mid j ≡ plain_byte l raw (from + j)
      each j h true e = rw (e, gathered j h)
      each j h false e =
          let some = (record_accepted l row.sound).some in
          let channel : (from + j) % l.fields.ch ≡ j % l.fields.ch = ap (λ (n : ℕ). (y * n + j) % l.fields.ch) (one_byte e) ∙ ap (λ (n : ℕ). (n + j) % l.fields.ch) (sym (mul_assoc y l.fields.w l.fields.ch)) ∙ mul-add-mod_self_right (y * l.fields.w) l.fields.ch j in
          let pixel : j / l.fields.ch < l.fields.w = (div-lt_iff_lt-mul some).1 (omega (arith, row.room, one_byte e)) in
          let end : (j / l.fields.ch + 1) * l.fields.ch ≤ l.fields.w * l.fields.ch = mul-le-mul_right l.fields.ch (omega (arith, pixel)) in
          let within : j - j % l.fields.ch + l.fields.ch - 1 < length out = omega (arith, row.room, one_byte e, div-add-mod' j l.fields.ch, add-mul (j / l.fields.ch) 1 l.fields.ch, one-mul l.fields.ch) in
          let alpha : from + (j - j % l.fields.ch + l.fields.ch - 1) ≡ from + j - j % l.fields.ch + l.fields.ch - 1 = omega (arith, mod-le j l.fields.ch) in
          rw (e, gathered j h, gathered (j - j % l.fields.ch + l.fields.ch - 1) within, alpha, channel)
