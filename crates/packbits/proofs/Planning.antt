-- A plan packet by packet: the rules that one keeps, and what a check, a count and a loop that writes have behind them. Assumes nothing.
use Prim.Native.Nat.{ℕ, ◌+◌, ◌-◌, ◌≤◌, ◌<◌}
use mathlib.Core.Path.{◌≡◌, refl, sym, ap, ◌∙◌}
use mathlib.Core.Bool.{Bool, true, false, ◌&&◌}
use mathlib.Core.List.{List, [], ◌∷◌}
use native.Mathlib.Omega.{arith}
use native.Mathlib.Nat.{add-zero, zero-add, add_assoc}
use native.Mathlib.Numerals.{add-one}
use borrow.Author.Tests.{leb-true, le-leb, lt-leb, eqb-true, eq-eqb, ne_eqb}
use lib.ListN.{length, get_or, take, drop, length-drop, drop_of_length-le}
use lib.Seq.{drop-drop, drop-cons, length-take-le, get_or-take}
use lib.Dec.{eqb, leb}
use Rattle.answer.specs.Outcome.{pick}
use Rattle.laws.proofs.Turns.{every-same}
use Rattle.laws.proofs.Says.{and_left, and_right}
use Rattle.packbits.specs.Plans.{Planned, plan_of, alike, literal_rule, repeat_rule, kept, keeps}
use Rattle.packbits.specs.Parts.{packet_length, plan_length}
use Rattle.packbits.proofs.Onward.{used_up}

-- bytes that are alike, in a part of a list
part_alike : (n : ℕ) (l : List ℕ) → n ≤ length l → alike (length (take n l)) (take n l) ≡ alike n l
part_alike n l h =
    ap (λ (m : ℕ). alike m (take n l)) (length-take-le n l h) ∙ every-same n _ _ (λ k b. rw (get_or-take n l k 0 b, get_or-take n l 0 0 (omega arith)))

-- the rules of the packet that finds the row at a place
module _ (row : List ℕ) (at kind bytes : ℕ) where
  abbrev planned : Planned
  planned = record { kind = kind; bytes = bytes }

  pub kept-short : length row - at < bytes → false ≡ kept (drop at row) planned
  unfolding kept
  kept-short h = rw (length-drop at row, lt-leb bytes (length row - at) h)

  module _ (h : bytes ≤ length row - at) where
    pub kept-literal : kind ≡ 0 → (leb 1 bytes && leb bytes 128) ≡ kept (drop at row) planned
    unfolding kept literal_rule
    kept-literal e = rw (length-drop at row, le-leb bytes (length row - at) h, eq-eqb kind 0 e)

    pub kept-other : (kind ≡ 0 → ⊥) → {a : Bool} → let part = take (at + bytes - at) (drop at row) in a ≡ alike (length part) part → (eqb kind 1 && (leb 2 bytes && leb bytes 128 && a)) ≡ kept (drop at row) planned
    unfolding kept repeat_rule
    kept-other o {a} e =
        let span : at + bytes - at ≡ bytes = omega arith in
        let same : a ≡ alike bytes (drop at row) = e ∙ ap (λ (n : ℕ). alike (length (take n (drop at row))) (take n (drop at row))) span ∙ part_alike bytes (drop at row) (rw (length-drop at row) h) in
        rw (length-drop at row, le-leb bytes (length row - at) h, ne_eqb kind 0 o, same)

-- what a packet that keeps them is
pub record Kept (row : List ℕ) (p : Planned) : Type 0 where
  pub inside : p.bytes ≤ length row
  pub some : 1 ≤ p.bytes
  pub few : p.bytes ≤ 128
  pub repeats : (p.kind ≡ 0 → ⊥) → (p.kind ≡ 1) × ((2 ≤ p.bytes) × (alike p.bytes row ≡ true))

pub kept-is : (row : List ℕ) (p : Planned) → kept row p ≡ true → Kept row p
unfolding kept literal_rule repeat_rule
kept-is row p e =
    let rules = pick (eqb p.kind 0) (literal_rule p.bytes) (eqb p.kind 1 && repeat_rule p.bytes row) in
    let fits = leb p.bytes (length row) in
    by p.bytes refl (leb-true p.bytes (length row) (and_left fits rules e)) (eqb p.kind 0) refl (and_right fits rules e)
  where
    by : (n : ℕ) → p.bytes ≡ n → p.bytes ≤ length row → (b : Bool) → eqb p.kind 0 ≡ b → pick b (literal_rule n) (eqb p.kind 1 && repeat_rule n row) ≡ true → Kept row p
    by n is inside_so true z t =
        record {
          inside = inside_so;
          some = rw is (leb-true 1 n (and_left (leb 1 n) (leb n 128) t));
          few = rw is (leb-true n 128 (and_right (leb 1 n) (leb n 128) t));
          repeats = λ o. absurd (o (eqb-true p.kind 0 z));
        }
    by n is inside_so false z t =
        let rule : (leb 2 n && leb n 128 && alike n row) ≡ true = and_right (eqb p.kind 1) _ t in
        let bounds : (leb 2 n && leb n 128) ≡ true = and_left (leb 2 n && leb n 128) (alike n row) rule in
        let two = leb-true 2 n (and_left (leb 2 n) (leb n 128) bounds) in
        record {
          inside = inside_so;
          some = omega arith;
          few = rw is (leb-true n 128 (and_right (leb 2 n) (leb n 128) bounds));
          repeats = λ o. (eqb-true p.kind 1 (and_left (eqb p.kind 1) _ t), rw is (two, and_right (leb 2 n && leb n 128) (alike n row) rule));
        }

-- the plan from a packet on
module _ (kinds lengths : List ℕ) where
  abbrev pub planned-at : ℕ → Planned
  planned-at k = record { kind = get_or kinds k 0; bytes = get_or lengths k 0 }

  abbrev pub plan_from : ℕ → List Planned
  plan_from k = plan_of (drop k kinds) (drop k lengths)

  pub plan-next : (k : ℕ) → k < length kinds → length kinds ≡ length lengths → plan_from k ≡ planned-at k ∷ plan_from (k + 1)
  plan-next k h e = rw (add-one k, drop-cons kinds k 0 h, drop-cons lengths k 0 (omega arith))

  pub plan_end : (k : ℕ) → length kinds ≤ k → plan_from k ≡ []
  plan_end k h = rw (drop_of_length-le kinds {i = k} h)

  -- a check up to a packet
  pub record Checked (row : List ℕ) (at k : ℕ) : Type 0 where
    pub inside : at ≤ length row
    pub rest : keeps row (plan_of kinds lengths) ≡ keeps (drop at row) (plan_from k)

  pub checked_none : (row : List ℕ) → Checked row 0 0
  checked_none row = record { inside = omega arith; rest = refl }

  module _ {row : List ℕ} {at k : ℕ} (paired : length kinds ≡ length lengths) (so_far : Checked row at k) where
    pub checked_end : length kinds ≤ k → eqb at (length row) ≡ keeps row (plan_of kinds lengths)
    checked_end h = sym (so_far.rest ∙ ap (keeps (drop at row)) (plan_end k h) ∙ used_up row at so_far.inside)

    module _ (more : k < length kinds) where
      pub next-kept : keeps row (plan_of kinds lengths) ≡ (kept (drop at row) (planned-at k) && keeps (drop (get_or lengths k 0) (drop at row)) (plan_from (k + 1)))
      next-kept = so_far.rest ∙ ap (keeps (drop at row)) (plan-next k more paired)

      pub checked_fails : kept (drop at row) (planned-at k) ≡ false → false ≡ keeps row (plan_of kinds lengths)
      checked_fails f = sym (next-kept ∙ ap (λ (b : Bool). b && keeps (drop (get_or lengths k 0) (drop at row)) (plan_from (k + 1))) f)

      pub checked_on : kept (drop at row) (planned-at k) ≡ true → Checked row (at + get_or lengths k 0) (k + 1)
      checked_on t =
          let fit = kept-is (drop at row) (planned-at k) t in
          record {
            inside = omega (arith, fit.inside, length-drop at row, so_far.inside);
            rest = next-kept ∙ ap (λ (b : Bool). b && keeps (drop (get_or lengths k 0) (drop at row)) (plan_from (k + 1))) t ∙ ap (λ (l : List ℕ). keeps l (plan_from (k + 1))) (drop-drop (get_or lengths k 0) at row);
          }

  -- a count up to a packet
  pub record Counted (room n k : ℕ) : Type 0 where
    pub within : n ≤ room
    pub rest : plan_length (plan_of kinds lengths) ≡ n + plan_length (plan_from k)

  pub counted_none : (room : ℕ) → Counted room 0 0
  counted_none room = record { within = omega arith; rest = sym (zero-add _) }

  module _ {room n k : ℕ} (paired : length kinds ≡ length lengths) (so_far : Counted room n k) where
    pub counted_end : length kinds ≤ k → n ≡ plan_length (plan_of kinds lengths)
    counted_end h = sym (so_far.rest ∙ ap (λ (p : List Planned). n + plan_length p) (plan_end k h) ∙ add-zero n)

    module _ (more : k < length kinds) where
      pub counted_next : plan_length (plan_of kinds lengths) ≡ n + packet_length (planned-at k) + plan_length (plan_from (k + 1))
      counted_next = so_far.rest ∙ ap (λ (p : List Planned). n + plan_length p) (plan-next k more paired) ∙ sym (add_assoc n (packet_length (planned-at k)) (plan_length (plan_from (k + 1))))

      pub counted-on : {m : ℕ} → m ≡ packet_length (planned-at k) → n + m ≤ room → Counted room (n + m) (k + 1)
      counted-on e h = record { within = h; rest = rw e counted_next }
