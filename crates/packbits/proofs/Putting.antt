-- Packets that are written: how long they are, one put behind another, and what a loop that writes has behind it. Assumes nothing.
use Prim.Native.Nat.{ℕ, zero, suc, ◌+◌, ◌-◌, ◌≤◌, ◌<◌}
use mathlib.Core.Path.{◌≡◌, refl, sym, ap, ◌∙◌}
use mathlib.Core.Bool.{Bool, true, false, ◌&&◌}
use mathlib.Core.List.{List, [], ◌∷◌}
use native.Mathlib.Omega.{arith}
use native.Mathlib.Nat.{sub-zero}
use native.Mathlib.Numerals.{add-one}
use native.Mathlib.Decide.{dec_lt}
use borrow.Author.Tests.{eq-eqb, ne_eqb, lt-ltb, le-ltb, le-leb}
use lib.ListN.{length, get_or, take, drop, set, length-drop, length-append}
use lib.Seq.{drop-drop, length-take-le}
use lib.Dec.{eqb, ltb}
use Rattle.answer.specs.Outcome.{Sound, First, here, later, next, none, output_too_small, pick}
use Rattle.laws.proofs.Says.{and_left, and_right, held}
use Rattle.packbits.specs.Plans.{Planned, plan_of, kept, keeps, literal_rule, packet_of, plan_bytes, plan_faults, pack_faults, literals, literals_of, plain_plan}
use Rattle.packbits.specs.Parts.{bytes_at, Placed, packet_length, plan_length, room_faults, Literal, PlannedFits, PlannedPut}
use Rattle.packbits.proofs.Onward.{first-at, Upto, upto_none, upto_on, upto_end, placed-after, placed_two}
use Rattle.packbits.proofs.Planning.{kept-is, plan_from, planned-at, plan-next, plan_end}

-- a packet's bytes, and a plan's
pub packet_long : (row : List ℕ) (p : Planned) → p.bytes ≤ length row → length (packet_of row p) ≡ packet_length p
unfolding packet_of
packet_long row p h = by (eqb p.kind 0)
  where
    by : (b : Bool) → length (pick b ((p.bytes - 1) ∷ take p.bytes row) ((257 - p.bytes) ∷ get_or row 0 0 ∷ [])) ≡ pick b (p.bytes + 1) 2
    by true = ap suc (length-take-le p.bytes row h) ∙ sym (add-one p.bytes)
    by false = refl

pub plan-long : (row : List ℕ) (plan : List Planned) → keeps row plan ≡ true → length (plan_bytes row plan) ≡ plan_length plan
plan-long row [] e = refl
plan-long row (p ∷ plan) e =
    let rest = keeps (drop p.bytes row) plan in
    length-append (packet_of row p) (plan_bytes (drop p.bytes row) plan)
    ∙ ap (λ (n : ℕ). n + length (plan_bytes (drop p.bytes row) plan)) (packet_long row p (kept-is row p (and_left (kept row p) rest e)).inside)
    ∙ ap (λ (n : ℕ). packet_length p + n) (plan-long (drop p.bytes row) plan (and_right (kept row p) rest e))

-- a plan's faults, once it is known that it keeps the rules
module _ (row kinds lengths out : List ℕ) (paired : length kinds ≡ length lengths) (k : keeps row (plan_of kinds lengths) ≡ true) where
  abbrev plan : List Planned
  plan = plan_of kinds lengths

  pub plan-first : {r : ℕ} → First (room_faults (length out) plan) r → First (plan_faults row kinds lengths out) r
  plan-first {r} f =
      let last : First (output_too_small (ltb (length out) (length (plan_bytes row plan))) ∷ []) r = rw (plan-long row plan k) f in
      later (held (eq-eqb (length kinds) (length lengths) paired)) (later (held k) last)

  pub plan-sound : plan_length plan ≤ length out → Sound (plan_faults row kinds lengths out)
  plan-sound room =
      let last : ltb (length out) (length (plan_bytes row plan)) ≡ false = rw (plan-long row plan k) (le-ltb (length out) (plan_length plan) room) in
      next (held (eq-eqb (length kinds) (length lengths) paired)) (next (held k) (next last none))

-- one packet put into the output: a literal, and a repeat
module _ (row out : List ℕ) (at to : ℕ) where
  pub literal_put : (n : ℕ) → PlannedFits row at (Literal n) out to → {new : List ℕ} → Placed (to + 1) (bytes_at row at n) (set out to (n - 1)) new → Placed to (packet_of (drop at row) (Literal n)) out new
  unfolding packet_of
  literal_put n fit put = placed-after out to (n - 1) (omega (arith, fit.room)) put

  pub repeat_put : (p : Planned) → (p.kind ≡ 0 → ⊥) → PlannedFits row at p out to → Placed to (packet_of (drop at row) p) out (set (set out to (257 - p.bytes)) (to + 1) (get_or row at 0))
  unfolding packet_of
  repeat_put p o fit =
      let kind = ne_eqb p.kind 0 o in
      let room : to + 2 ≤ length out = rw kind at fit.room in
      rw (kind, first-at row at) (placed_two out to (257 - p.bytes) (get_or row at 0) room)

-- a plan's packets put up to one of them
pub record Putting (kinds lengths row out₀ : List ℕ) (at to k : ℕ) (out : List ℕ) : Type 0 where
  pub inside : at ≤ length row
  pub keeps_rules : keeps (drop at row) (plan_from kinds lengths k) ≡ true
  pub room : to + plan_length (plan_from kinds lengths k) ≡ length out₀
  pub upto : Upto (plan_bytes row (plan_of kinds lengths)) (plan_bytes (drop at row) (plan_from kinds lengths k)) out₀ to out

pub putting_none : (kinds lengths row out : List ℕ) → keeps row (plan_of kinds lengths) ≡ true → plan_length (plan_of kinds lengths) ≡ length out → Putting kinds lengths row out 0 0 0 out
putting_none kinds lengths row out k room = record { inside = omega arith; keeps_rules = k; room = omega (arith, room); upto = upto_none _ out }

module _ {kinds lengths row out₀ out : List ℕ} {at to k : ℕ} (paired : length kinds ≡ length lengths) (put : Putting kinds lengths row out₀ at to k out) where
  pub putting_end : length kinds ≤ k → out ≡ plan_bytes row (plan_of kinds lengths)
  putting_end h =
      let none_left = plan_end kinds lengths k h in
      upto_end (rw none_left at put.upto) (omega (arith, rw none_left at put.room))

  module _ (more : k < length kinds) where
    next-keeps : (kept (drop at row) (planned-at kinds lengths k) && keeps (drop (get_or lengths k 0) (drop at row)) (plan_from kinds lengths (k + 1))) ≡ true
    next-keeps = rw (plan-next kinds lengths k more paired) at put.keeps_rules

    next-kept : kept (drop at row) (planned-at kinds lengths k) ≡ true
    next-kept = and_left _ _ next-keeps

    next-room : to + (packet_length (planned-at kinds lengths k) + plan_length (plan_from kinds lengths (k + 1))) ≡ length out₀
    next-room = rw (plan-next kinds lengths k more paired) at put.room

    pub planned-fits : PlannedFits row at (planned-at kinds lengths k) out to
    planned-fits = record { inside = put.inside; keeps_rules = next-kept; room = omega (arith, next-room, put.upto.same) }

    pub next-inside : at + get_or lengths k 0 ≤ length row
    next-inside = omega (arith, (kept-is (drop at row) (planned-at kinds lengths k) next-kept).inside, length-drop at row, put.inside)

    pub putting_on : {new : List ℕ} → PlannedPut row at (planned-at kinds lengths k) out to new → Putting kinds lengths row out₀ (at + get_or lengths k 0) (to + packet_length (planned-at kinds lengths k)) (k + 1) new
    putting_on {new} e =
        let p = planned-at kinds lengths k in
        let fit = kept-is (drop at row) p next-kept in
        let long = packet_long (drop at row) p fit.inside in
        let past = drop-drop (get_or lengths k 0) at row in
        let rest_keeps : keeps (drop (get_or lengths k 0) (drop at row)) (plan_from kinds lengths (k + 1)) ≡ true = and_right (kept (drop at row) p) _ next-keeps in
        record {
          inside = next-inside;
          keeps_rules = rw past at rest_keeps;
          room = omega (arith, next-room);
          upto = rw (← past) (upto_on (packet_of (drop at row) p) (rw (plan-next kinds lengths k more paired) at put.upto) long (omega (arith, next-room)) e);
        }

-- without a plan: the literal that a row begins with, and those behind it
abbrev pub literal_of : ℕ → ℕ
literal_of left = pick (ltb 128 left) 128 left

pub record FirstLiteral (left n : ℕ) : Type 0 where
  pub some : 1 ≤ n
  pub few : n ≤ 128
  pub inside : n ≤ left
  pub behind_it : left - n ≡ left - 128
  pub counted : literals_of left ≡ suc (literals_of (left - 128))

pub first-literal : (left : ℕ) → 0 < left → FirstLiteral left (literal_of left)
first-literal left h = by (dec_lt 128 left)
  where
    by : Dec (128 < left) → FirstLiteral left (literal_of left)
    by (yes l) =
        rw (lt-ltb 128 left l)
        (record { some = omega arith; few = omega arith; inside = omega arith; behind_it = refl; counted = omega arith })
    by (no m) =
        rw (le-ltb 128 left (omega arith))
        (record { some = omega arith; few = omega arith; inside = omega arith; behind_it = omega arith; counted = omega arith })

literals-next : (left : ℕ) → 0 < left → literals (literals_of left) left ≡ Literal (literal_of left) ∷ literals (literals_of (left - 128)) (left - 128)
literals-next left h = rw (first-literal left h).counted

literal-kept : (row : List ℕ) (n : ℕ) → 1 ≤ n → n ≤ 128 → n ≤ length row → kept row (Literal n) ≡ true
unfolding kept literal_rule
literal-kept row n some few inside = rw (le-leb n (length row) inside, le-leb 1 n some, le-leb n 128 few)

-- the literals of a row keep the rules, and are as long as the row and a byte for each
pub plain-keeps : (g : ℕ) (row : List ℕ) (left : ℕ) → length row ≡ left → g ≡ literals_of left → keeps row (literals g left) ≡ true
plain-keeps zero row left long e = eq-eqb (length row) 0 (omega arith)
plain-keeps (suc g) row left long e =
    let first = first-literal left (omega arith) in
    let n = literal_of left in
    rw (literal-kept row n first.some first.few (omega (arith, first.inside))) (plain-keeps g (drop n row) (left - 128) (length-drop n row ∙ omega (arith, first.behind_it)) (omega (arith, first.counted)))

pub plain-long : (g left : ℕ) → g ≡ literals_of left → plan_length (literals g left) ≡ left + g
plain-long zero left e = omega arith
plain-long (suc g) left e =
    let first = first-literal left (omega arith) in
    ap (λ (n : ℕ). literal_of left + 1 + n) (plain-long g (left - 128) (omega (arith, first.counted))) ∙ omega (arith, first.behind_it, first.inside)

-- literals put up to a place of the row
pub record PuttingPlain (row out₀ : List ℕ) (at to : ℕ) (out : List ℕ) : Type 0 where
  pub inside : at ≤ length row
  pub room : to + (length row - at + literals_of (length row - at)) ≡ length out₀
  pub upto : Upto (plan_bytes row (plain_plan row)) (plan_bytes (drop at row) (literals (literals_of (length row - at)) (length row - at))) out₀ to out

pub plain-none : (row out : List ℕ) → length row + literals_of (length row) ≡ length out → PuttingPlain row out 0 0 out
plain-none row out h =
    record { inside = omega arith; room = omega (arith, h); upto = rw (sub-zero (length row)) (upto_none (plan_bytes row (plain_plan row)) out) }

module _ {row out₀ out : List ℕ} {at to : ℕ} (put : PuttingPlain row out₀ at to out) where
  pub plain_end : length row ≤ at → out ≡ plan_bytes row (plain_plan row)
  plain_end h =
      let none_left : length row - at ≡ 0 = omega arith in
      upto_end (rw none_left at put.upto) (omega (arith, rw none_left at put.room))

  module _ (more : at < length row) where
    abbrev n : ℕ
    n = literal_of (length row - at)

    pub literal-first : FirstLiteral (length row - at) n
    literal-first = first-literal (length row - at) (omega arith)

    pub literal-fits : PlannedFits row at (Literal n) out to
    literal-fits =
        record {
          inside = put.inside;
          keeps_rules = literal-kept (drop at row) n literal-first.some literal-first.few (rw (length-drop at row) literal-first.inside);
          room = omega (arith, put.room, literal-first, put.upto.same);
        }

    pub plain-on : {new : List ℕ} → PlannedPut row at (Literal n) out to new → PuttingPlain row out₀ (at + n) (to + (n + 1)) new
    plain-on {new} e =
        let left = length row - at in
        let first = literal-first in
        let behind : length row - (at + n) ≡ left - 128 = omega (arith, first.behind_it) in
        let long = packet_long (drop at row) (Literal n) (rw (length-drop at row) first.inside) in
        let past = drop-drop n at row in
        record {
          inside = omega (arith, first.inside);
          room = rw behind (omega (arith, put.room, first));
          upto = rw (behind, ← past) (upto_on (packet_of (drop at row) (Literal n)) (rw (literals-next left (omega arith)) at put.upto) long (omega (arith, put.room, first)) e);
        }

-- the faults of a row that is packed without a plan
pub plain-bytes : (row : List ℕ) → length (plan_bytes row (plain_plan row)) ≡ length row + literals_of (length row)
plain-bytes row =
    let n = length row in plan-long row (plain_plan row) (plain-keeps (literals_of n) row n refl refl) ∙ plain-long (literals_of n) n refl

pub pack_first : (row out : List ℕ) → length out < length row + literals_of (length row) → First (pack_faults row out) 4
pack_first row out h =
    let short : ltb (length out) (length (plan_bytes row (plain_plan row))) ≡ true = rw (plain-bytes row) (lt-ltb (length out) (length row + literals_of (length row)) h) in here short

pub pack_sound : (row out : List ℕ) → length row + literals_of (length row) ≤ length out → Sound (pack_faults row out)
pack_sound row out h =
    let long : ltb (length out) (length (plan_bytes row (plain_plan row))) ≡ false = rw (plain-bytes row) (le-ltb (length out) (length row + literals_of (length row)) h) in next long none
