-- A list that holds another at a place: in pieces, in numbers, what is read there, and that it was written there. Assumes nothing.
use Prim.Native.Nat.{ℕ, ◌+◌, ◌*◌, ◌≤◌, ◌<◌}
use mathlib.Core.Path.{◌≡◌, sym, ap, ◌∙◌}
use mathlib.Core.Bool.{true}
use mathlib.Core.List.{List, ◌++◌}
use native.Mathlib.Nat.{mod-eq_of_lt, add_assoc}
use native.Mathlib.Omega.{arith}
use lib.ListN.{length, get_or, get_or-append}
use lib.Seq.{get_or-append-add}
use Rattle.answer.specs.Table.{stores}
use Rattle.answer.proofs.Filling.{length-table, table_at, stores-on, stores_same}
use Rattle.laws.specs.Turns.{sum, end_to_end}
use Rattle.laws.proofs.Turns.{sum_same}
use Rattle.laws.proofs.Joined.{length-joined, joined_at, sum-all}
use Rattle.words.specs.Digits.{digit}
use Rattle.words.specs.Word.{word_at, modulus, Put}
use Rattle.words.proofs.Words.{digits_word}
use Rattle.files.specs.File.{stored, numbers}
use Rattle.files.specs.Parts.{Wrote}

pub record Holds (all : List ℕ) (at : ℕ) (part : List ℕ) : Type 0 where
  pub bytes : (q : ℕ) → q < length part → get_or all (at + q) 0 ≡ get_or part q 0

-- the same place in other words
pub holds_at : {all : List ℕ} {at at' : ℕ} {part : List ℕ} → at ≡ at' → Holds all at part → Holds all at' part
holds_at e h = rw e at h

-- of two lists end to end the first and the second; a part of a part
pub holds_first : (a b : List ℕ) → Holds (a ++ b) 0 a
holds_first a b = record { bytes = λ q l. ap (λ (i : ℕ). get_or (a ++ b) i 0) (omega arith) ∙ get_or-append a b 0 q l }

pub holds_second : (a b : List ℕ) {n : ℕ} → length a ≡ n → Holds (a ++ b) n b
holds_second a b e =
    record { bytes = λ q l. ap (λ (i : ℕ). get_or (a ++ b) (i + q) 0) (sym e) ∙ get_or-append-add a b q 0 }

pub holds_in : {all part sub : List ℕ} {at i : ℕ} → Holds all at part → Holds part i sub → i + length sub ≤ length part → Holds all (at + i) sub
holds_in {all} {part} {sub} {at} {i} h k room =
    record { bytes = λ q l. ap (λ (j : ℕ). get_or all j 0) (add_assoc at i q) ∙ h.bytes (i + q) (omega arith) ∙ k.bytes q l }

-- of several lists of one length end to end, list k
pub length-each : (n m : ℕ) (f : ℕ → List ℕ) → ((k : ℕ) → length (f k) ≡ m) → length (end_to_end n f) ≡ m * n
length-each n m f each = length-joined n f ∙ sum_same n (λ j. length (f j)) (λ j. m) (λ j h. each j) ∙ sum-all n m

pub holds_each : (n m : ℕ) (f : ℕ → List ℕ) → ((k : ℕ) → length (f k) ≡ m) → (k : ℕ) → k < n → Holds (end_to_end n f) (m * k) (f k)
holds_each n m f each k h =
    let before : sum k (λ j. length (f j)) ≡ m * k = sum_same k (λ j. length (f j)) (λ j. m) (λ j q. each j) ∙ sum-all k m in
    record { bytes = λ q l. ap (λ (i : ℕ). get_or (end_to_end n f) (i + q) 0) (sym before) ∙ joined_at n f k q h l }

-- of several numbers number j
pub length-stored : (width v : ℕ) → length (stored width v) ≡ width
length-stored width v = length-table width (λ p. digit 256 p v)

pub length-numbers : (width n : ℕ) (v : ℕ → ℕ) → length (numbers width n v) ≡ width * n
length-numbers width n v = length-each n width (λ j. stored width (v j)) (λ j. length-stored width (v j))

pub holds_number : (width n : ℕ) (v : ℕ → ℕ) (j : ℕ) → j < n → Holds (numbers width n v) (width * j) (stored width (v j))
holds_number width n v j h = holds_each n width (λ i. stored width (v i)) (λ i. length-stored width (v i)) j h

-- a number is read where it is stored
pub holds_word : {s : List ℕ} {at : ℕ} (width v : ℕ) → Holds s at (stored width v) → v < modulus width → word_at s at width true ≡ v
holds_word {s} {at} width v h l =
    digits_word s at width true v (λ p q. h.bytes p (rw length-stored q) ∙ table_at width (λ i. digit 256 i v) p q) ∙ mod-eq_of_lt l

-- n bytes written, and m more behind them
pub wrote_on : {all : List ℕ} {at n m end : ℕ} {a b c : List ℕ} → Wrote all at n a b → at + n ≡ end → Wrote all end m b c → Wrote all at (n + m) a c
wrote_on {all} {at} {n} {m} {end} {a} {b} {c} p e q =
    let behind : Wrote all (at + n) m b c = rw (sym e) at q in
    record { stored = behind.stored ∙ ap (λ (l : List ℕ). stores l (at + n) m (λ i. get_or all (at + n + i) 0)) p.stored ∙ stores-on a at n m _ _ (λ i h. ap (λ (k : ℕ). get_or all k 0) (add_assoc at n i)) }

-- what is held there, written
pub wrote_part : {all part : List ℕ} {at n : ℕ} {old new : List ℕ} → Holds all at part → length part ≡ n → new ≡ stores old at n (λ q. get_or part q 0) → Wrote all at n old new
wrote_part {all} {part} {at} {n} {old} h e s = record { stored = s ∙ stores_same old at n _ _ (λ q l. sym (h.bytes q (omega arith))) }

pub wrote-number : {all : List ℕ} {at : ℕ} (width v : ℕ) {old new : List ℕ} → Holds all at (stored width v) → Put old at width true v new → Wrote all at width old new
wrote-number {all} {at} width v {old} h s =
    wrote_part h (length-stored width v) (s ∙ stores_same old at width _ _ (λ p l. sym (table_at width (λ i. digit 256 i v) p l)))
