-- Reversing twice gives the first bytes back: a theorem over the promises of two calls. Assumes nothing.
use mathlib.Core.Path.{◌≡◌, ap, ◌∙◌}
use mathlib.Core.List.{List}
use Prim.Native.Nat.{ℕ, ◌-◌, ◌<◌}
use native.Mathlib.Nat.{mod-eq_of_lt}
use native.Mathlib.Omega.{arith}
use lib.ListN.{length, get_or}
use Rattle.answer.proofs.Filling.{length-table, table_at, table_same, table_self}
use Rattle.words.specs.Digits.{digit}
use Rattle.words.specs.Word.{Bytes}
use Rattle.words.proofs.Digits.{digit_below, digit_value, value-digit, value_same}
use Rattle.transport.specs.Moved.{reversed, Reversed}

-- bit i of a reversed byte is bit 7 - i
pub reversed_bit : (v i : ℕ) → i < 8 → digit 2 i (reversed v) ≡ digit 2 (7 - i) v
reversed_bit v i h = digit_value 2 8 (λ j. digit 2 (7 - j) v) (λ j l. digit_below 2 (7 - j) v (omega arith)) i h

pub reversed-reversed : (v : ℕ) → v < 256 → reversed (reversed v) ≡ v
reversed-reversed v h =
    value_same 2 8 (λ i. digit 2 (7 - i) (reversed v)) (λ i. digit 2 i v) (λ i l. reversed_bit v (7 - i) (omega arith) ∙ ap (λ (j : ℕ). digit 2 j v) (omega arith))
    ∙ value-digit 2 8 v (omega arith)
    ∙ mod-eq_of_lt h

pub reverse_twice : (s x y : List ℕ) → Bytes s → Reversed s x → Reversed x y → y ≡ s
reverse_twice s x y b p q =
    let f : ℕ → ℕ = λ k. reversed (get_or s k 0) in
    (rw (p, length-table (length s) f) at q)
    ∙ table_same (length s) _ _ (λ k h. ap reversed (table_at (length s) f k h) ∙ reversed-reversed (get_or s k 0) (b k))
    ∙ table_self s
