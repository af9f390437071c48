-- What a loop over packets has behind it: bytes that were put one after another, and how a promise is met by them. Assumes nothing.
use Prim.Native.Nat.{ℕ, suc, ◌+◌, ◌-◌, ◌≤◌, ◌<◌}
use mathlib.Core.Path.{◌≡◌, refl, sym, ap, ◌∙◌}
use mathlib.Core.List.{List, [], ◌∷◌, ◌++◌, append_assoc, append-nil}
use native.Mathlib.Nat.{zero-add, add-zero}
use native.Mathlib.Numerals.{add-one}
use native.Mathlib.Omega.{arith}
use native.Mathlib.Decide.{ℕ_discrete}
use borrow.Author.Tests.{eq-eqb, ne_eqb}
use lib.ListN.{length, get_or, take, drop, set, length-set, length-append, length-drop, drop_of_length-le}
use lib.Dec.{eqb}
use lib.Seq.{get_or-drop, drop-drop, length-take-le, take_all, take-suc-set, take-append-add, take-append-le}
use Rattle.answer.specs.Outcome.{Fault, Sound, Outcome, done, unless, after, Promise}
use Rattle.answer.proofs.Promised.{finishing, sound-done}
use Rattle.packbits.specs.Parts.{put_at, Placed}

-- the first of the rest of a list
pub first-at : (l : List ℕ) (at : ℕ) → get_or (drop at l) 0 0 ≡ get_or l at 0
first-at l at = get_or-drop at l 0 0 ∙ ap (λ (n : ℕ). get_or l n 0) (add-zero at)

-- nothing is left of a list past its end
pub used_up : (l : List ℕ) (at : ℕ) → at ≤ length l → eqb (length (drop at l)) 0 ≡ eqb at (length l)
used_up l at h = ap (λ (n : ℕ). eqb n 0) (length-drop at l) ∙ by (ℕ_discrete at (length l))
  where
    by : Dec (at ≡ length l) → eqb (length l - at) 0 ≡ eqb at (length l)
    by (yes e) = eq-eqb (length l - at) 0 (omega arith) ∙ sym (eq-eqb at (length l) e)
    by (no o) = ne_eqb (length l - at) 0 (λ e. o (omega arith)) ∙ sym (ne_eqb at (length l) o)

-- how a promise with no buffer is met, where the answer is known by an equation
pub finishing_as : {A : Type 0} (fs : List Fault) {a b : A} → Sound fs → b ≡ a → done b ≡ unless fs a
finishing_as fs s e = rw e (finishing fs _ s)

-- how one with a buffer is met: by the bytes put at its front
pub finishes_with : {A : Type 0} (fs : List Fault) {a b : A} (w : List ℕ) {old new : List ℕ} → Sound fs → b ≡ a → new ≡ put_at 0 w old → Promise (unless fs a) w old (done b) new
finishes_with {A} fs {a} {b} w {old} s e put =
    record {
      answers = finishing_as fs s e;
      leaves = put ∙ ap (λ (n : ℕ). w ++ drop n old) (zero-add (length w)) ∙ sym (ap (λ (o : Outcome A). after o w old) (sound-done a s));
    }

pub put_length : (to : ℕ) (bytes old : List ℕ) → to + length bytes ≤ length old → length (put_at to bytes old) ≡ length old
put_length to bytes old h =
    length-append (take to old) (bytes ++ drop (to + length bytes) old)
    ∙ ap (λ (n : ℕ). length (take to old) + n) (length-append bytes (drop (to + length bytes) old))
    ∙ omega (arith, length-take-le to old (omega arith), length-drop (to + length bytes) old)

-- bytes that are all of the buffer
pub put_all : (bytes old : List ℕ) → length bytes ≡ length old → bytes ≡ put_at 0 bytes old
put_all bytes old e = sym (append-nil bytes) ∙ ap (λ (l : List ℕ). bytes ++ l) (sym (drop_of_length-le old {i = 0 + length bytes} (omega arith)))

-- a buffer into which a front of the whole was placed, so that the rest goes in from `to` on
pub record Upto (whole rest old : List ℕ) (to : ℕ) (out : List ℕ) : Type 0 where
  pub within : to ≤ length old
  pub same : length out ≡ length old
  pub so_far : take to out ++ rest ≡ whole

pub upto_none : (whole old : List ℕ) → Upto whole whole old 0 old
upto_none whole old = record { within = omega arith; same = refl; so_far = refl }

pub upto_on : {whole rest old out : List ℕ} {to : ℕ} (bytes : List ℕ) {n : ℕ} {new : List ℕ} → Upto whole (bytes ++ rest) old to out → length bytes ≡ n → to + n ≤ length old → Placed to bytes out new → Upto whole rest old (to + n) new
upto_on {whole} {rest} {old} {out} {to} bytes u long room put =
    record {
      within = room;
      same = put.same ∙ u.same;
      so_far = ap (λ (l : List ℕ). l ++ rest) (rw long at put.front) ∙ append_assoc (take to out) bytes rest ∙ u.so_far;
    }

pub upto_end : {whole old out : List ℕ} {to : ℕ} → Upto whole [] old to out → length old ≤ to → out ≡ whole
upto_end {whole} {old} {out} {to} u end =
    sym (append-nil out) ∙ ap (λ (l : List ℕ). l ++ []) (sym (take_all to out (omega (arith, u.same)))) ∙ u.so_far

-- a part of a buffer that was filled, as bytes put there
pub put_part : (row : List ℕ) (from to : ℕ) {new bytes : List ℕ} → new ≡ bytes → from ≤ to → length bytes ≡ to - from → take from row ++ (new ++ drop (to - from) (drop from row)) ≡ put_at from bytes row
put_part row from to {new} {bytes} e h long =
    ap (λ (l : List ℕ). take from row ++ (l ++ drop (to - from) (drop from row))) e
    ∙ ap (λ (l : List ℕ). take from row ++ (bytes ++ l)) (drop-drop (to - from) from row ∙ ap (λ (n : ℕ). drop (from + n) row) (sym long))

-- n bytes placed, as the front of what was put there; and none
pub placed_by : (to n : ℕ) (source : List ℕ) {bytes row new : List ℕ} → take n source ≡ bytes → n ≤ length source → to + length source ≤ length row → new ≡ put_at to source row → Placed to bytes row new
placed_by to n source {bytes} {row} {new} is h room e =
    let long : length bytes ≡ n = ap length (sym is) ∙ length-take-le n source h in
    let front : length (take to row) ≡ to = length-take-le to row (omega arith) in
    let span : to + length bytes ≡ length (take to row) + n = omega arith in
    record {
      same = ap length e ∙ put_length to source row room;
      front = ap (take (to + length bytes)) e ∙ ap (λ (k : ℕ). take k (put_at to source row)) span ∙ take-append-add (take to row) (source ++ drop (to + length source) row) n ∙ ap (λ (l : List ℕ). take to row ++ l) (take-append-le n source (drop (to + length source) row) h ∙ is);
    }

pub placed-none : (to : ℕ) (row : List ℕ) → Placed to [] row row
placed-none to row = record { same = refl; front = ap (λ (n : ℕ). take n row) (add-zero to) ∙ sym (append-nil (take to row)) }

-- a byte, and what is placed behind it
pub placed-after : (out : List ℕ) (to v : ℕ) {bytes new : List ℕ} → to < length out → Placed (to + 1) bytes (set out to v) new → Placed to (v ∷ bytes) out new
placed-after out to v {bytes} {new} h put =
    let front : take (to + 1) (set out to v) ≡ take to out ++ (v ∷ []) = ap (λ (n : ℕ). take n (set out to v)) (add-one to) ∙ take-suc-set out to v h in
    let span : to + suc (length bytes) ≡ to + 1 + length bytes = omega arith in
    record {
      same = put.same ∙ length-set out to v;
      front = ap (λ (n : ℕ). take n new) span ∙ put.front ∙ ap (λ (l : List ℕ). l ++ bytes) front ∙ append_assoc (take to out) (v ∷ []) bytes;
    }

pub placed_two : (out : List ℕ) (to a b : ℕ) → to + 2 ≤ length out → Placed to (a ∷ b ∷ []) out (set (set out to a) (to + 1) b)
placed_two out to a b h = placed-after out to a (omega arith) (placed-after (set out to a) (to + 1) b (rw (length-set out to a) (omega arith)) (placed-none (to + 1 + 1) (set (set out to a) (to + 1) b)))
