-- Two parts of a slice, reversed one after the other, are the whole reversed. Assumes nothing.
use Prim.Native.Nat.{ℕ, ◌+◌, ◌-◌, ◌≤◌}
use mathlib.Core.Path.{◌≡◌, refl, ap, ◌∙◌}
use mathlib.Core.List.{List, ◌++◌}
use native.Mathlib.Omega.{arith}
use lib.ListN.{length, get_or, take, drop}
use Rattle.answer.specs.Table.{table, filled}
use Rattle.answer.proofs.Filling.{table_same, length-filled, filled_rest, part, length_part, part_at, halfway, front-filled, both_filled}
use Rattle.transport.specs.Moved.{reversed, Reversed}

-- a part reversed, its bytes being old's from a on
part_reversed : (old s new : List ℕ) (a e : ℕ) → a ≤ e → e ≤ length s → ((k : ℕ) → a ≤ k → get_or s k 0 ≡ get_or old k 0) → Reversed (part a e s) new → new ≡ table (e - a) (λ k. reversed (get_or old (a + k) 0))
part_reversed old s new a e h room same is =
    (rw (length_part a e s h room) at is) ∙ table_same (e - a) _ _ (λ k l. ap reversed (part_at a e s k l ∙ same (a + k) (omega arith)))

pub both_reversed : (a : ℕ) (old front back : List ℕ) → a ≤ length old → Reversed (part 0 a old) front → Reversed (part a (length old) (halfway a old front)) back → Reversed old (take a (halfway a old front) ++ (back ++ drop (length old - a) (drop a (halfway a old front))))
both_reversed a old front back room first second =
    let f : ℕ → ℕ = λ k. reversed (get_or old k 0) in
    let before = part_reversed old old front 0 a (omega arith) room (λ k h. refl) first in
    let half : halfway a old front ≡ filled a f old = front-filled f a old front before in
    let long : length (halfway a old front) ≡ length old = ap length half ∙ length-filled a f old room in
    let unread : (k : ℕ) → a ≤ k → get_or (halfway a old front) k 0 ≡ get_or old k 0 = λ k h. ap (λ (l : List ℕ). get_or l k 0) half ∙ filled_rest a f old k h in
    both_filled f a old front back room before (part_reversed old (halfway a old front) back a (length old) room (omega arith) unread second)
