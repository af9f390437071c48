-- A plan is accepted exactly if it keeps the rules in plain words, given room (rule 17.8). Assumes nothing.
use Rattle.std.specs.Prelude.{Ok}
use Prim.Native.Nat.{ℕ, zero, suc, ◌+◌, ◌-◌, ◌≤◌}
use mathlib.Core.Path.{◌≡◌, sym, ap, ◌∙◌}
use mathlib.Core.Bool.{true}
use mathlib.Core.List.{List}
use native.Mathlib.Decide.{ℕ_discrete}
use native.Mathlib.Numerals.{add-one}
use native.Mathlib.Omega.{arith}
use borrow.Author.Tests.{eqb-true, eq-eqb, le-leb, not-false}
use lib.ListN.{length, get_or, drop, length-drop}
use lib.Seq.{get_or-drop, drop-drop}
use lib.Dec.{eqb}
use Rattle.answer.proofs.Promised.{done-sound, sound-done, sound-here, sound_rest}
use Rattle.answer.specs.Outcome.{Answer}
use Rattle.laws.proofs.Joined.{sum-within}
use Rattle.laws.proofs.Turns.{every_one, every-all}
use Rattle.laws.proofs.Says.{and_left}
use Rattle.packbits.specs.Plans.{plan_of, alike, literal_rule, repeat_rule, kept, keeps, start_of, PacketRule, literal, repeat, PlanRules, plan_bytes, plan_faults, PlanWritten}
use Rattle.answer.proofs.Promised.{answer_once}
use Rattle.packbits.proofs.Onward.{first-at, used_up}
use Rattle.packbits.proofs.Planning.{kept-is, planned-at, plan_from, plan-next, plan_end, Checked, checked_none, checked_on, checked_end, next-kept}
use Rattle.packbits.proofs.Putting.{plan-long, plan-sound}

module _ (row kinds lengths : List ℕ) where
  -- a packet's rule, and the test of it
  rule_kept : (start k : ℕ) → get_or lengths k 0 ≤ length row - start → PacketRule row start (get_or kinds k 0) (get_or lengths k 0) → kept (drop start row) (planned-at kinds lengths k) ≡ true
  unfolding kept literal_rule repeat_rule
  rule_kept start k inside (literal zero_kind some few) =
      let n = get_or lengths k 0 in
      rw (length-drop start row, le-leb n (length row - start) inside, zero_kind, le-leb 1 n some, le-leb n 128 few)
  rule_kept start k inside (repeat one-kind some few same) =
      let n = get_or lengths k 0 in
      let all : alike n (drop start row) ≡ true = every-all n _ (λ j h. eq-eqb _ _ (get_or-drop start row j 0 ∙ same j h ∙ sym (first-at row start))) in
      rw (length-drop start row, le-leb n (length row - start) inside, one-kind, le-leb 2 n some, le-leb n 128 few, all)

  kept_rule : (start k : ℕ) → kept (drop start row) (planned-at kinds lengths k) ≡ true → PacketRule row start (get_or kinds k 0) (get_or lengths k 0)
  kept_rule start k e = by (ℕ_discrete (get_or kinds k 0) 0)
    where
      by : Dec (get_or kinds k 0 ≡ 0) → PacketRule row start (get_or kinds k 0) (get_or lengths k 0)
      by (yes z) = let fit = kept-is (drop start row) (planned-at kinds lengths k) e in literal z fit.some fit.few
      by (no o) =
          let fit = kept-is (drop start row) (planned-at kinds lengths k) e in
          let rule = fit.repeats o in
          repeat rule.0 rule.1.0 fit.few (λ j h. sym (get_or-drop start row j 0) ∙ eqb-true _ _ (every_one (get_or lengths k 0) _ rule.1.1 j h) ∙ first-at row start)

  -- rules in plain words are kept, from any packet on
  keeps_from : PlanRules row kinds lengths → (m k : ℕ) → k + m ≡ length kinds → keeps (drop (start_of lengths k) row) (plan_from kinds lengths k) ≡ true
  keeps_from r zero k e =
      let all : k ≡ length kinds = omega arith in
      let start : start_of lengths k ≡ length row = ap (start_of lengths) all ∙ r.adds_up in
      ap (keeps (drop (start_of lengths k) row)) (plan_end kinds lengths k (omega arith)) ∙ used_up row (start_of lengths k) (omega arith) ∙ eq-eqb (start_of lengths k) (length row) start
  keeps_from r (suc m) k e =
      let start = start_of lengths k in
      let n = get_or lengths k 0 in
      let more : suc k + m ≡ length kinds = omega arith in
      let within : start + n ≤ length row = rw r.adds_up at (sum-within (λ j. get_or lengths j 0) k (length kinds) (omega arith)) in
      let first = rule_kept start k (omega arith) (r.each k (omega arith)) in
      ap (keeps (drop start row)) (plan-next kinds lengths k (omega arith) r.paired) ∙ rw (first, drop-drop n start row, add-one k) (keeps_from r m (suc k) more)

  -- and the other way
  checked_upto : length kinds ≡ length lengths → keeps row (plan_of kinds lengths) ≡ true → (k : ℕ) → k ≤ length kinds → Checked kinds lengths row (start_of lengths k) k
  checked_upto paired e zero h = checked_none kinds lengths row
  checked_upto paired e (suc k) h =
      let so_far = checked_upto paired e k (omega arith) in
      rw (add-one k) at (checked_on kinds lengths paired so_far (omega arith) (and_left (kept (drop (start_of lengths k) row) (planned-at kinds lengths k)) _ (sym (next-kept kinds lengths paired so_far (omega arith)) ∙ e)))

  rules_of : length kinds ≡ length lengths → keeps row (plan_of kinds lengths) ≡ true → PlanRules row kinds lengths
  rules_of paired e =
      record {
        paired = paired;
        adds_up = eqb-true (start_of lengths (length kinds)) (length row) (checked_end kinds lengths paired (checked_upto paired e (length kinds) (omega arith)) (omega arith) ∙ e);
        each = λ k h. kept_rule (start_of lengths k) k (and_left (kept (drop (start_of lengths k) row) (planned-at kinds lengths k)) _ (sym (next-kept kinds lengths paired (checked_upto paired e k (omega arith)) h) ∙ e));
      }

-- every plan that keeps the rules is accepted, given room; and no other
pub plan_accepted : (row kinds lengths old : List ℕ) → PlanRules row kinds lengths → let bytes = plan_bytes row (plan_of kinds lengths) in length bytes ≤ length old → (answer : Answer ℕ) (new : List ℕ) → PlanWritten row kinds lengths old answer new → answer ≡ Ok (length bytes)
plan_accepted row kinds lengths old r room answer new p =
    let plan = plan_of kinds lengths in
    let keep : keeps row plan ≡ true = keeps_from row kinds lengths r (length kinds) 0 (omega arith) in
    let sound = plan-sound row kinds lengths old r.paired keep (rw (plan-long row plan keep) at room) in
    answer_once answer (Ok (length (plan_bytes row plan))) (p.answers ∙ sound-done (length (plan_bytes row plan)) sound)

pub accepted_keeps : (row kinds lengths old : List ℕ) (n : ℕ) (new : List ℕ) → PlanWritten row kinds lengths old (Ok n) new → PlanRules row kinds lengths
accepted_keeps row kinds lengths old n new p =
    let sound = done-sound (plan_faults row kinds lengths old) (length (plan_bytes row (plan_of kinds lengths))) n (sym p.answers) in
    rules_of row kinds lengths (eqb-true (length kinds) (length lengths) (not-false (eqb (length kinds) (length lengths)) (sound-here sound))) (not-false (keeps row (plan_of kinds lengths)) (sound-here (sound_rest sound)))
