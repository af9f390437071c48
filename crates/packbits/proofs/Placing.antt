-- Bytes moved to a place of a buffer: copied, or repeated, and the first of them. Assumes nothing.
use Prim.Native.Nat.{ℕ, zero, suc, ◌+◌, ◌-◌, ◌≤◌}
use mathlib.Core.Path.{◌≡◌, refl, sym, ap, ◌∙◌}
use mathlib.Core.Bool.{true, ◌&&◌}
use mathlib.Core.List.{List, [], ◌∷◌, ◌++◌}
use native.Mathlib.Omega.{arith}
use borrow.Author.Tests.{leb-true}
use native.Mathlib.Numerals.{add-one}
use Rattle.std.proofs.lemmas.Grind.{replicate_next}
use lib.ListN.{length, take, drop, replicate, length-drop}
use lib.Dec.{leb}
use lib.Seq.{length-take-le, take-take}
use Rattle.answer.specs.Table.{table}
use Rattle.answer.proofs.Filling.{length-table, table_at, table_same}
use Rattle.laws.proofs.Lists.{own_front}
use Rattle.laws.proofs.Says.{and_left, and_right}
use Rattle.packbits.specs.Parts.{put_at, bytes_at, Placed, CopyFits}
use Rattle.packbits.proofs.Onward.{put_part, placed_by}

-- a byte repeated
replicated : (n b : ℕ) → replicate n b ≡ table n (λ k. b)
replicated zero b = refl
replicated (suc n) b = ap (λ (m : ℕ). replicate m b) (sym (add-one n)) ∙ replicate_next n b ∙ ap (λ (l : List ℕ). l ++ (b ∷ [])) (replicated n b)

-- a part of a buffer: copied, or filled with a byte
pub part_copied : (packed row : List ℕ) (begin n from : ℕ) → CopyFits packed begin n row from → {new : List ℕ} → new ≡ take (begin + n - begin) (drop begin packed) → take from row ++ (new ++ drop (from + n - from) (drop from row)) ≡ put_at from (bytes_at packed begin n) row
part_copied packed row begin n from room e =
    let read : begin + n - begin ≡ n = omega arith in
    let source : length (bytes_at packed begin n) ≡ n = length-take-le n (drop begin packed) (rw (length-drop begin packed) (omega (arith, room.0))) in
    put_part row from (from + n) (e ∙ ap (λ (k : ℕ). take k (drop begin packed)) read) (omega arith) (omega arith)

pub part_filled_with : (row : List ℕ) (n from b : ℕ) → from + n ≤ length row → {new : List ℕ} → new ≡ table (length (take (from + n - from) (drop from row))) (λ k. b) → take from row ++ (new ++ drop (from + n - from) (drop from row)) ≡ put_at from (table n (λ k. b)) row
part_filled_with row n from b room e =
    let span : from + n - from ≡ n = omega arith in
    let old : length (take (from + n - from) (drop from row)) ≡ n = ap (λ (k : ℕ). length (take k (drop from row))) span ∙ length-take-le n (drop from row) (rw (length-drop from row) (omega arith)) in
    put_part row from (from + n) (e ∙ ap (λ (k : ℕ). table k (λ j. b)) old) (omega arith) (length-table n (λ k. b) ∙ sym span)

-- what was put there places the first n of it
pub repeat-placed : (row : List ℕ) (n m from b : ℕ) → n ≤ m → from + m ≤ length row → {new : List ℕ} → new ≡ put_at from (table m (λ k. b)) row → Placed from (table n (λ k. b)) row new
repeat-placed row n m from b h room e =
    let long = length-table m (λ k. b) in
    let front : take n (table m (λ k. b)) ≡ table n (λ k. b) = sym (own_front n (table m (λ k. b)) (omega arith)) ∙ table_same n _ _ (λ k l. table_at m (λ j. b) k (omega arith)) in
    placed_by from n (table m (λ k. b)) front (omega arith) (omega arith) e

pub literal-placed : (packed row : List ℕ) (begin n m from : ℕ) → n ≤ m → CopyFits packed begin m row from → {new : List ℕ} → new ≡ put_at from (bytes_at packed begin m) row → Placed from (bytes_at packed begin n) row new
literal-placed packed row begin n m from h room e =
    let long : length (bytes_at packed begin m) ≡ m = length-take-le m (drop begin packed) (rw (length-drop begin packed) (omega (arith, room.0))) in
    placed_by from n (bytes_at packed begin m) (take-take n m (drop begin packed) h) (omega arith) (omega (arith, room.1)) e

-- a block that there is room for
pub fits_block : (n m to size : ℕ) → to ≤ size → (leb n m && leb m (size - to)) ≡ true → (n ≤ m) × (to + m ≤ size)
fits_block n m to size h e =
    let room = leb-true m (size - to) (and_right (leb n m) (leb m (size - to)) e) in
    (leb-true n m (and_left (leb n m) (leb m (size - to)) e), omega arith)
