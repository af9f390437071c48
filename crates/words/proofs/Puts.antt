-- A word stored at a place: a number and its rest modulo 256^width are stored alike, backwards is the other byte order, a highest byte comes
-- before the others there, and two halves are the word of eight bytes. Assumes nothing.
use mathlib.Core.Path.{◌≡◌, ap, ◌∙◌}
use mathlib.Core.Bool.{Bool, true, false}
use mathlib.Core.List.{List}
use Prim.Native.Nat.{ℕ, ◌+◌, ◌/◌, ◌%◌, ◌≤◌}
use native.Mathlib.Omega.{arith}
use lib.ListN.{length, set}
use Rattle.answer.specs.Table.{stores}
use Rattle.answer.proofs.Filling.{length-stores, stores_same, stores-on}
use Rattle.words.specs.Digits.{digit}
use Rattle.words.specs.Word.{ordered, Put, PutHalves, backwards, modulus}
use Rattle.words.proofs.Digits.{value_same, digit_rest, digit_over}
use Rattle.words.proofs.Words.{ordered_below, backwards-digit}

pub put_length : (old : List ℕ) (at width : ℕ) (le : Bool) (v : ℕ) (new : List ℕ) → Put old at width le v new → length new ≡ length old
put_length old at width le v new put = rw put (length-stores old at width _)

pub put_rest : (old : List ℕ) (at width : ℕ) (le : Bool) (v : ℕ) (new : List ℕ) → Put old at width le (v % modulus width) new → Put old at width le v new
put_rest old at width le v new e =
    e ∙ stores_same old at width _ _ (λ p h. digit_rest 256 width v (ordered le width p) (omega arith) (ordered_below le width p h))

pub backwards_rest : (width n v : ℕ) → width ≤ n → backwards width (v % modulus n) ≡ backwards width v
backwards_rest width n v h =
    value_same 256 width _ _ (λ p l. digit_rest 256 n v (ordered false width p) (omega arith) (omega (arith, ordered_below false width p l)))

pub put_backwards : (old : List ℕ) (at width v w : ℕ) (new : List ℕ) → w ≡ backwards width v → Put old at width true w new → Put old at width false v new
put_backwards old at width v w new e put = put ∙ stores_same old at width _ _ (λ p h. rw e (backwards-digit width v p h))

pub put_high : (old : List ℕ) (at n v : ℕ) (new : List ℕ) → Put (set old (at + 0) (digit 256 (ordered false (1 + n) 0) v)) (at + 1) n false v new → Put old at (1 + n) false v new
put_high old at n v new put = put ∙ stores-on old at 1 n (λ p. digit 256 (ordered false (1 + n) p) v) _ (λ p h. ap (λ (q : ℕ). digit 256 q v) (omega arith))

pub put_halves : {old : List ℕ} {at v : ℕ} {new : List ℕ} → PutHalves old at v new → Put old at 8 true v new
put_halves {old} {at} {v} {new} is =
    let begun : is.between ≡ stores old at 4 (λ p. digit 256 p v) = is.low ∙ stores_same old at 4 _ _ (λ p h. digit_rest 256 4 v p (omega arith) h) in
    is.high
    ∙ ap (λ (l : List ℕ). stores l (at + 4) 4 (λ p. digit 256 p (v / 4294967296))) begun
    ∙ stores-on old at 4 4 (λ p. digit 256 p v) _ (λ p h. digit_over 256 4 v p)
