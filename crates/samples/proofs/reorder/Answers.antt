-- `samples::reorder` meets its promise: in one order a copy, in the other each word's bytes backwards. Assumes nothing.
use borrow.Author.Tests.{eq-eqb, ne_eqb, le-ltb}
use mathlib.Core.Path.{◌≡◌, ap, ◌∙◌, sym}
use mathlib.Core.Bool.{true, false, not}
use mathlib.Core.List.{List}
use native.Mathlib.Omega.{arith}
use lib.ListN.{length}
use lib.Dec.{ltb}
use Rattle.answer.specs.Outcome.{Fault, next, none, Sound}
use Rattle.answer.proofs.Promised.{hands_on}
use Rattle.answer.proofs.Filling.{table_same}
use Rattle.words.specs.Word.{Bytes}
use Rattle.words.specs.Promises.{served}
use Rattle.words.proofs.Served.{served-some}
use Rattle.swaps.specs.Swapped.{swap_faults}
use Rattle.laws.proofs.Faults.{past_none, past_one}
use Rattle.transport.specs.Moved.{commit_faults}
use Rattle.samples.specs.Promises.{reorder_faults}
use Rattle.samples.proofs.Orders.{same_order, other_order}
use Rattle.samples.proofs.reorder.Goals.{Else-not-width_served, Else-out-raw}
use Rattle.samples.proofs.reorder.Goals as goal

allowed : (c : Else-not-width_served) → served c.args.width ≡ true
allowed c =
    sym c.width_served.ensures ∙ c.if-not-width_served.false

room : (c : Else-out-raw) → let args = c.args in ltb (length args.out.now) (length args.raw.now) ≡ false
room c =
    let args = c.args in le-ltb (length args.out.now) (length args.raw.now) (omega (arith, c.if-out-raw.false))

-- past every test there is no fault, of this call or of those that it hands on
sound : (c : Else-out-raw) → served c.args.width ≡ true → Sound (reorder_faults c.args.raw.now c.args.width c.args.out.now)
sound c allowed = (past_one (past_one (past_none _) (ap not allowed)) (ap not (eq-eqb _ _ c.if-raw-width-ne0.false))).sound (next (room c) none)

bytes : (c : Else-not-width_served) → Bytes c.args.raw.now
bytes c =
    λ i. omega (arith, c.type_inv.raw i)

pub nonzero_rem-raw : goal.nonzero_rem-raw
nonzero_rem-raw c =
    (served-some _ (allowed (goal.at.nonzero_rem-raw c).Else-not-width_served)).0

pub returns-then-orders_differ : goal.returns-then-orders_differ
returns-then-orders_differ c =
    let faults : List Fault = reorder_faults c.args.raw.now c.args.width c.args.out.now in
    let swap_sound : let args = c.args in Sound (swap_faults args.raw.now args.width args.out.now) = let wide = served-some _ (allowed (goal.at.returns-then-orders_differ c).Else-not-width_served) in
    let some : c.args.width ≡ 0 → ⊥ = λ z. omega arith in
    next (ne_eqb _ _ some) (next (le-ltb _ _ wide.1) (next (ap not (eq-eqb _ _ c.if-raw-width-ne0.false)) (next (room (goal.at.returns-then-orders_differ c).Else-out-raw) none))) in
    let args = c.args in
    hands_on (swap_faults args.raw.now args.width args.out.now) faults tt _ _ args.out.now _ _ swap_sound (sound (goal.at.returns-then-orders_differ c).Else-out-raw (allowed (goal.at.returns-then-orders_differ c).Else-not-width_served))
    (sym (table_same (length args.raw.now) _ _ (λ k h. other_order args.raw.now (bytes (goal.at.returns-then-orders_differ c).Else-not-width_served) args.width (served-some _ (allowed (goal.at.returns-then-orders_differ c).Else-not-width_served)).0 k args.le args.out_le (sym c.orders_differ.ensures ∙ c.if-orders_differ.true))))
    c.swap_components.ensures

pub returns-else-orders_differ : goal.returns-else-orders_differ
returns-else-orders_differ c =
    let faults : List Fault = reorder_faults c.args.raw.now c.args.width c.args.out.now in
    let args = c.args in
    hands_on (commit_faults args.raw.now args.out.now) faults tt _ _ args.out.now _ _ (next (room (goal.at.returns-else-orders_differ c).Else-out-raw) none) (sound (goal.at.returns-else-orders_differ c).Else-out-raw (allowed (goal.at.returns-else-orders_differ c).Else-not-width_served))
    (sym (table_same (length args.raw.now) _ _ (λ k h. same_order args.raw.now (bytes (goal.at.returns-else-orders_differ c).Else-not-width_served) args.width (served-some _ (allowed (goal.at.returns-else-orders_differ c).Else-not-width_served)).0 k args.le args.out_le (sym c.orders_differ.ensures ∙ c.if-orders_differ.false))))
    c.commit_uninit.ensures
