-- What a caller may conclude from marks: each law is of a call that was done, and follows from the promise alone. Assumes nothing.
use Rattle.std.specs.Prelude.{Ok}
use mathlib.Core.Path.{◌≡◌, refl, sym, ap, ◌∙◌}
use mathlib.Core.Bool.{Bool, true, false}
use mathlib.Core.List.{List}
use Prim.Native.Nat.{ℕ, suc, ◌+◌, ◌*◌, ◌/◌, ◌%◌, ◌≤◌, ◌<◌}
use native.Mathlib.Nat.{add-mul, mul_assoc, suc-mul, mul-le-mul_right, mul-mod_left, mod-lt, div-add-mod', one-mul, le-div_iff_mul-le, div-lt_iff_lt-mul}
use native.Mathlib.Decide.{dec_lt}
use native.Mathlib.Omega.{arith}
use lib.Dec.{eqb}
use lib.ListN.{length, get_or}
use Rattle.answer.specs.Outcome.{Sound}
use Rattle.answer.proofs.Promised.{done-sound, done-value}
use Rattle.samples.specs.Sample.{Good, sample}
use Rattle.samples.specs.declared.Strip.{Strip}
use Rattle.samples.proofs.Strips.{per_row_lem, width_fits}
use Rattle.samples.proofs.Rows.{row-alone}
use Rattle.damage.specs.Marks.{damaged, struck, marked, mark_byte, counted, Alike}
use Rattle.damage.specs.Promises.{samples_of, mark_faults, Marked}
use Rattle.laws.proofs.Lists.{past_end}
use Rattle.damage.proofs.Marking.{damaged-hurt, undamaged_sound, struck_where, struck-here, struck-same, marked-alone, same-marks}
use Rattle.damage.proofs.Exact.{there, unmarked_agree}
use Rattle.damage.proofs.Loops.{counted_same, counted-most}
use Rattle.damage.proofs.Promised.{mark_true, mark_false, good-marks, written}

-- past the end two strips are alike too
alike_at : {damage a b : List ℕ} → Alike damage a b → (k : ℕ) → get_or damage k 0 ≡ 0 → get_or a k 0 ≡ get_or b k 0
alike_at {damage} {a} {b} alike k sound = by (dec_lt k (length damage))
  where
    by : Dec (k < length damage) → get_or a k 0 ≡ get_or b k 0
    by (yes h) = alike.same k h sound
    by (no h) = past_end a k (omega (arith, alike.a-long)) ∙ sym (past_end b k (omega (arith, alike.b-long)))

-- a row's samples, counted
row_samples : (bytes : ℕ) (g : Strip) → Good bytes g → 0 < g.row / g.width
row_samples bytes g good = (le-div_iff_mul-le {k = g.width} {x = 1} {y = g.row} good.wide).1 (omega (arith, one-mul g.width, width_fits bytes g good))

-- the marks of a row depend on that row's damage alone
pub row-marks-alone : (bytes : ℕ) (g : Strip) (good : Good bytes g) (predict : Bool) (s t : List ℕ) (r : ℕ) → ((k : ℕ) → r * g.row ≤ k → k < r * g.row + g.row → get_or s k 0 ≡ get_or t k 0) → (n : ℕ) → n / (g.row / g.width) ≡ r → marked g predict s n ≡ marked g predict t n
row-marks-alone bytes g good predict s t r agree n at_r =
    let per = g.row / g.width in
    let split : r * per + n % per ≡ n = rw (← at_r) (div-add-mod' n per) in
    rw (← split)
    (same-marks g g good.channel refl refl predict s t (r * per) (r * per) (mul-mod_left r per) (mul-mod_left r per)
    (λ m h.
    let from : (r * per + m) * g.width ≡ r * g.row + m * g.width = add-mul (r * per) m g.width ∙ ap (λ (x : ℕ). x + m * g.width) (mul_assoc r per g.width ∙ ap (λ (x : ℕ). r * x) (per_row_lem bytes g good)) in
    let inside : m * g.width + g.width ≤ g.row = omega (arith, mul-le-mul_right g.width h, suc-mul m g.width, per_row_lem bytes g good) in
    struck-same g.width s t ((r * per + m) * g.width) ((r * per + m) * g.width) (λ p l. agree ((r * per + m) * g.width + p) (omega arith) (omega arith)))
    (n % per)
    (mod-lt n (row_samples bytes g good)))

module _ {damage : List ℕ} {g : Strip} {predict : Bool} {old : List ℕ} {count : ℕ} {new : List ℕ} (call : Marked damage g predict old (Ok count) new) where
  -- a call that was done had no fault
  no_fault : Sound (mark_faults damage g old)
  no_fault = done-sound (mark_faults damage g old) _ count (sym call.promise.answers)

  good_call : Good (length damage) g
  good_call = good-marks damage g predict old (Ok count) new no_fault

  mark_is : (n : ℕ) → n < samples_of damage g → get_or new n 0 ≡ mark_byte (marked g predict damage n)
  mark_is n h = written damage g predict old (Ok count) new call.promise no_fault n h

  -- an unmarked sample is the same whatever the damaged bytes held
  pub unmarked_same : (n : ℕ) → n < samples_of damage g → get_or new n 0 ≡ 0 → (le : Bool) (a b : List ℕ) → Alike damage a b → sample g predict le a n ≡ sample g predict le b n
  unmarked_same n h e le a b alike =
      unmarked_agree g good_call.channel predict le damage a b alike n (there g damage n h) (mark_false (marked g predict damage n) (sym (mark_is n h) ∙ e))

  -- every mark is 0 or 1
  marked_or : (n : ℕ) → n < samples_of damage g → (get_or new n 0 ≡ 1 → ⊥) → get_or new n 0 ≡ 0
  marked_or n h other = by (marked g predict damage n) refl
    where
      by : (b : Bool) → marked g predict damage n ≡ b → get_or new n 0 ≡ 0
      by true e = absurd (other (mark_is n h ∙ ap mark_byte e))
      by false e = mark_is n h ∙ ap mark_byte e

  -- a row without damage has no mark
  pub sound-row_unmarked : (n : ℕ) → n < samples_of damage g → (r : ℕ) → n / (g.row / g.width) ≡ r → ((k : ℕ) → r * g.row ≤ k → k < r * g.row + g.row → get_or damage k 0 ≡ 0) → get_or new n 0 ≡ 0
  sound-row_unmarked n h r at_r sound =
      marked_or n h (λ one.
      let two = (call.exact no_fault true n h).0 one in
      two.differ (row-alone (length damage) g good_call predict true two.a two.b r (λ k from to. alike_at two.alike k (sound k from to)) n at_r))

  -- damage that is all in one row marks nothing in another
  pub other-row_unmarked : (r : ℕ) → ((k : ℕ) → (get_or damage k 0 ≡ 0 → ⊥) → k / g.row ≡ r) → (n : ℕ) → n < samples_of damage g → (n / (g.row / g.width) ≡ r → ⊥) → get_or new n 0 ≡ 0
  other-row_unmarked r all n h other = sound-row_unmarked n h (n / (g.row / g.width)) refl sound
    where
      sound : (k : ℕ) → n / (g.row / g.width) * g.row ≤ k → k < n / (g.row / g.width) * g.row + g.row → get_or damage k 0 ≡ 0
      sound k from to = by (damaged damage k) refl
        where
          here : k / g.row ≡ n / (g.row / g.width)
          here = omega (arith, (le-div_iff_mul-le {k = g.row} {x = n / (g.row / g.width)} {y = k} good_call.long).1 from, (div-lt_iff_lt-mul {k = g.row} {x = k} {y = suc (n / (g.row / g.width))} good_call.long).1 (rw suc-mul (omega arith)))

          by : (b : Bool) → damaged damage k ≡ b → get_or damage k 0 ≡ 0
          by true e = absurd (other (sym here ∙ all k (damaged-hurt damage k e)))
          by false e = undamaged_sound damage k e

  -- the count is the number of marked samples
  pub count_of_marks : count ≡ counted (samples_of damage g) (λ n. eqb (get_or new n 0) 1)
  count_of_marks =
      sym (done-value (mark_faults damage g old) _ count (sym call.promise.answers))
      ∙ counted_same (samples_of damage g) (marked g predict damage) (λ n. eqb (get_or new n 0) 1) (λ n h. sym (ap (λ (x : ℕ). eqb x 1) (mark_is n h) ∙ read (marked g predict damage n)))
    where
      read : (b : Bool) → eqb (mark_byte b) 1 ≡ b
      read true = refl
      read false = refl

  -- and so at most that of all
  pub count-at-most : count ≤ samples_of damage g
  count-at-most = omega (arith, count_of_marks, counted-most (samples_of damage g) (λ n. eqb (get_or new n 0) 1))

-- without prediction a sample is marked exactly if one of its own bytes is damaged
pub unpredicted_own : {damage : List ℕ} {g : Strip} {old : List ℕ} {count : ℕ} {new : List ℕ} → Marked damage g false old (Ok count) new → (n : ℕ) → n < samples_of damage g → (get_or new n 0 ≡ 1 → (p : ℕ) × ((p < g.width) × (get_or damage (n * g.width + p) 0 ≡ 0 → ⊥))) × ((p : ℕ) → p < g.width → (get_or damage (n * g.width + p) 0 ≡ 0 → ⊥) → get_or new n 0 ≡ 1)
unpredicted_own {damage} {g} {old} {count} {new} call n h = (own, mark)
  where
    is : get_or new n 0 ≡ mark_byte (struck g.width damage n)
    is = mark_is call n h ∙ ap mark_byte (marked-alone g false damage n refl)

    own : get_or new n 0 ≡ 1 → (p : ℕ) × ((p < g.width) × (get_or damage (n * g.width + p) 0 ≡ 0 → ⊥))
    own one =
        let there-is = struck_where g.width damage (n * g.width) (mark_true (struck g.width damage n) (sym is ∙ one)) in
        (there-is.place, (there-is.below, damaged-hurt damage (n * g.width + there-is.place) there-is.holds))

    mark : (p : ℕ) → p < g.width → (get_or damage (n * g.width + p) 0 ≡ 0 → ⊥) → get_or new n 0 ≡ 1
    mark p below hurt = is ∙ ap mark_byte (struck-here g.width damage (n * g.width) p below hurt)

-- more damage never unmarks: of two calls on as many bytes, where all that the first takes for damaged the second does too
pub more_damage : {damage worse : List ℕ} {g : Strip} {predict : Bool} {old old' : List ℕ} {count count' : ℕ} {new new' : List ℕ} → Marked damage g predict old (Ok count) new → Marked worse g predict old' (Ok count') new' → length damage ≡ length worse → ((k : ℕ) → get_or worse k 0 ≡ 0 → get_or damage k 0 ≡ 0) → (n : ℕ) → n < samples_of damage g → get_or new n 0 ≡ 1 → get_or new' n 0 ≡ 1
more_damage {damage} {worse} {g} call call' long more n h one =
    let two = (call.exact (no_fault call) true n h).0 one in
    let alike = two.alike in
    (call'.exact (no_fault call') true n (rw long at h)).1
    (record {
      a = two.a;
      b = two.b;
      alike = record { a-long = alike.a-long ∙ long; b-long = alike.b-long ∙ long; a-bytes = alike.a-bytes; b-bytes = alike.b-bytes; same = λ k l e. alike.same k (omega arith) (more k e) };
      differ = two.differ;
    })
