-- Tables, and a buffer that a loop fills from the front: its first i elements are the table's, the rest are as they were.
-- Every loop that writes has this invariant; a turn that stores several elements cites `stores-filled`. Assumes nothing.
use mathlib.Core.Path.{◌≡◌, refl, sym, ap, ◌∙◌}
use mathlib.Core.List.{List, [], ◌∷◌, ◌++◌, append_assoc, append-nil}
use Prim.Native.Nat.{ℕ, zero, suc, ◌+◌, ◌-◌, ◌<◌, ◌≤◌}
use native.Mathlib.Nat.{add-zero, add-suc, add_assoc}
use native.Mathlib.Numerals.{add-one}
use native.Mathlib.Decide.{dec_lt}
use native.Mathlib.Omega.{arith}
use lib.ListN.{length, get_or, take, drop, set, take-append-drop, drop_of_length-le, length-take, length-append, length-drop, length-set, get_or-append}
use lib.Seq.{drop-cons, drop-drop, drop-append-add, set_at, take_at, drop_at, get_or-take, get_or-set_same, get_or-set_other, get_or_at, get_or-append-add, get_or-drop, ext_get_or}
use Rattle.answer.specs.Table.{table, filled, stores}

pub length-table : (n : ℕ) (f : ℕ → ℕ) → length (table n f) ≡ n
length-table zero f = refl
length-table (suc n) f = length-append (table n f) (f n ∷ []) ∙ ap (λ (k : ℕ). k + 1) (length-table n f) ∙ add-one n

-- a table's element k is f at k
pub table_at : (n : ℕ) (f : ℕ → ℕ) (k : ℕ) → k < n → get_or (table n f) k 0 ≡ f k
table_at zero f k h = absurd (omega arith)
table_at (suc n) f k h = by (dec_lt k n) (table_at n f k)
  where
    by : Dec (k < n) → (k < n → get_or (table n f) k 0 ≡ f k) → get_or (table n f ++ (f n ∷ [])) k 0 ≡ f k
    by (yes l) below = get_or-append (table n f) (f n ∷ []) 0 k (rw length-table l) ∙ below l
    by (no g) below = let last : k ≡ n = omega arith in rw last (get_or_at (table n f) (f n) [] 0 n (length-table n f))

-- two tables of one length are the same where their functions agree below it
pub table_same : (n : ℕ) (f g : ℕ → ℕ) → ((k : ℕ) → k < n → f k ≡ g k) → table n f ≡ table n g
table_same zero f g e = refl
table_same (suc n) f g e = rw (table_same n f g (λ k h. e k (omega arith)), e n (omega arith))

-- a list is the table of its elements
pub table_self : (l : List ℕ) → table (length l) (λ k. get_or l k 0) ≡ l
table_self l = ext_get_or 0 (table (length l) (λ k. get_or l k 0)) l (length-table (length l) (λ k. get_or l k 0)) (λ i h. table_at (length l) (λ k. get_or l k 0) i (rw length-table at h))

pub length-filled : (i : ℕ) (f : ℕ → ℕ) (old : List ℕ) → i ≤ length old → length (filled i f old) ≡ length old
length-filled i f old h = simp (length-append, length-table, length-drop) (omega arith)

pub filled_more : (i : ℕ) (f : ℕ → ℕ) (old : List ℕ) → i < length old → set (filled i f old) i (f i) ≡ filled (i + 1) f old
filled_more i f old h = rw (add-one, drop-cons old i 0) (set_at (table i f) _ (drop (suc i) old) (f i) i (length-table i f) ∙ sym (append_assoc (table i f) (f i ∷ []) (drop (suc i) old)))

-- what is as f has it already
pub filled_keep : (i : ℕ) (f : ℕ → ℕ) (old : List ℕ) → i < length old → get_or old i 0 ≡ f i → filled i f old ≡ filled (i + 1) f old
filled_keep i f old h e = rw (add-one, drop-cons old i 0, e) (sym (append_assoc (table i f) (f i ∷ []) (drop (suc i) old)))

pub length-stores : (out : List ℕ) (at n : ℕ) (g : ℕ → ℕ) → length (stores out at n g) ≡ length out
length-stores out at zero g = refl
length-stores out at (suc n) g = length-set (stores out at n g) (at + n) (g n) ∙ length-stores out at n g

-- stores of the same bytes
pub stores_same : (out : List ℕ) (at n : ℕ) (f g : ℕ → ℕ) → ((p : ℕ) → p < n → f p ≡ g p) → stores out at n f ≡ stores out at n g
stores_same out at zero f g e = refl
stores_same out at (suc n) f g e = rw (e n (omega arith), stores_same out at n f g (λ p h. e p (omega arith)))

-- stores after stores
pub stores-on : (out : List ℕ) (at n m : ℕ) (g h : ℕ → ℕ) → ((p : ℕ) → p < m → h p ≡ g (n + p)) → stores (stores out at n g) (at + n) m h ≡ stores out at (n + m) g
stores-on out at n zero g h e = rw (add-zero n)
stores-on out at n (suc m) g h e = rw (add-suc n m, stores-on out at n m g h (λ p l. e p (omega arith)), e m (omega arith), add_assoc at n m)

-- what n stores put there, and what they leave
pub stores_at : (out : List ℕ) (at n : ℕ) (g : ℕ → ℕ) (p : ℕ) → p < n → at + n ≤ length out → get_or (stores out at n g) (at + p) 0 ≡ g p
stores_at out at zero g p h room = absurd (omega arith)
stores_at out at (suc n) g p h room = by (dec_lt p n) (λ l. stores_at out at n g p l (omega arith))
  where
    by : Dec (p < n) → (p < n → get_or (stores out at n g) (at + p) 0 ≡ g p) → get_or (set (stores out at n g) (at + n) (g n)) (at + p) 0 ≡ g p
    by (yes l) before = get_or-set_other (stores out at n g) (at + n) (at + p) (g n) 0 (λ e. omega arith) ∙ before l
    by (no m) before = let last : p ≡ n = omega arith in rw last (get_or-set_same (stores out at n g) (at + n) (g n) 0 (rw length-stores (omega arith)))

pub stores_rest : (out : List ℕ) (at n : ℕ) (g : ℕ → ℕ) (k : ℕ) → (at ≤ k → at + n ≤ k) → get_or (stores out at n g) k 0 ≡ get_or out k 0
stores_rest out at zero g k away = refl
stores_rest out at (suc n) g k away =
    get_or-set_other (stores out at n g) (at + n) k (g n) 0 (λ e. omega (arith, away (omega arith))) ∙ stores_rest out at n g k (λ l. omega (arith, away l))

-- a turn that stores n elements, each what f has there, fills n more
pub stores-filled : (f g : ℕ → ℕ) (old out : List ℕ) (at n : ℕ) → ((p : ℕ) → p < n → g p ≡ f (at + p)) → at + n ≤ length old → out ≡ filled at f old → stores out at n g ≡ filled (at + n) f old
stores-filled f g old out at zero e room s = rw (add-zero at) s
stores-filled f g old out at (suc n) e room s =
    let more : at + suc n ≡ at + n + 1 = omega arith in
    rw (stores-filled f g old out at n (λ p h. e p (omega arith)) (omega arith) s, e n (omega arith), more) (filled_more (at + n) f old (omega arith))

-- what is not filled yet is as it was
pub filled_rest : (i : ℕ) (f : ℕ → ℕ) (old : List ℕ) (k : ℕ) → i ≤ k → get_or (filled i f old) k 0 ≡ get_or old k 0
filled_rest i f old k h =
    let past : k ≡ length (table i f) + (k - i) = omega (arith, length-table i f) in
    ap (λ (n : ℕ). get_or (filled i f old) n 0) past ∙ get_or-append-add (table i f) (drop i old) (k - i) 0 ∙ get_or-drop i old (k - i) 0 ∙ ap (λ (n : ℕ). get_or old n 0) (omega arith)

-- and what is filled is f
pub filled-front : (i : ℕ) (f : ℕ → ℕ) (old : List ℕ) (k : ℕ) → k < i → get_or (filled i f old) k 0 ≡ f k
filled-front i f old k h = get_or-append (table i f) (drop i old) 0 k (rw length-table h) ∙ table_at i f k h

-- filling on from what is filled
pub filled_on : (i n : ℕ) (f : ℕ → ℕ) (old : List ℕ) → i ≤ n → filled n f (filled i f old) ≡ filled n f old
filled_on i n f old h =
    let rest : n ≡ length (table i f) + (n - i) = omega (arith, length-table i f) in
    let end : i + (n - i) ≡ n = omega arith in
    let past : drop n (filled i f old) ≡ drop n old =
    ap (λ (m : ℕ). drop m (filled i f old)) rest ∙ drop-append-add (table i f) (drop i old) (n - i) ∙ drop-drop (n - i) i old ∙ ap (λ (m : ℕ). drop m old) end in
    ap (λ (l : List ℕ). table n f ++ l) past

-- a buffer whose front is the table is filled already
pub filled_already : (i : ℕ) (f : ℕ → ℕ) (old : List ℕ) → take i old ≡ table i f → filled i f old ≡ old
filled_already i f old e = rw (← e) (take-append-drop i old)

-- the same function below the end
pub filled-same : (i : ℕ) (f g : ℕ → ℕ) (old : List ℕ) → ((k : ℕ) → k < i → f k ≡ g k) → filled i f old ≡ filled i g old
filled-same i f g old e = ap (λ (l : List ℕ). l ++ drop i old) (table_same i f g e)

pub filled-take : (i : ℕ) (f : ℕ → ℕ) (old : List ℕ) → take i (filled i f old) ≡ table i f
filled-take i f old = take_at (table i f) (drop i old) i (length-table i f)

-- a table in two pieces
pub table_join : (n m : ℕ) (f : ℕ → ℕ) → table n f ++ table m (λ k. f (n + k)) ≡ table (n + m) f
table_join n zero f = append-nil (table n f) ∙ ap (λ (k : ℕ). table k f) (sym (add-zero n))
table_join n (suc m) f =
    sym (append_assoc (table n f) (table m (λ k. f (n + k))) (f (n + m) ∷ []))
    ∙ ap (λ (l : List ℕ). l ++ (f (n + m) ∷ [])) (table_join n m f)
    ∙ ap (λ (k : ℕ). table k f) (sym (add-suc n m))

-- a buffer that is filled to its end holds the table alone
pub filled-all : (n : ℕ) (f : ℕ → ℕ) (old : List ℕ) → length old ≤ n → filled n f old ≡ table n f
filled-all n f old h = rw (drop_of_length-le old h) (append-nil (table n f))

-- the part of a list from a to e, and a buffer in which that part was filled
abbrev pub part : ℕ → ℕ → List ℕ → List ℕ
part a e l = take (e - a) (drop a l)

pub length_part : (a e : ℕ) (l : List ℕ) → a ≤ e → e ≤ length l → length (part a e l) ≡ e - a
length_part a e l h k = simp (length-take, length-drop) (omega arith)

pub part_at : (a e : ℕ) (l : List ℕ) (i : ℕ) → i < e - a → get_or (part a e l) i 0 ≡ get_or l (a + i) 0
part_at a e l i h = get_or-take (e - a) (drop a l) i 0 h ∙ get_or-drop a l i 0

-- a part is the table of its elements
pub part_table : (a e : ℕ) (l : List ℕ) → a ≤ e → e ≤ length l → part a e l ≡ table (e - a) (λ i. get_or l (a + i) 0)
part_table a e l on inside =
    ext_get_or 0 (part a e l) _ (length_part a e l on inside ∙ sym (length-table (e - a) _)) (λ i h. let below : i < e - a = omega (arith, h, length_part a e l on inside) in part_at a e l i below ∙ sym (table_at (e - a) _ i below))

pub part_filled : (f : ℕ → ℕ) (a e : ℕ) (old out new : List ℕ) → a ≤ e → out ≡ filled a f old → new ≡ table (e - a) (λ k. f (a + k)) → take a out ++ (new ++ drop (e - a) (drop a out)) ≡ filled e f old
part_filled f a e old out new h s is =
    let whole_way : a + (e - a) ≡ e = omega arith in
    let front : take a out ≡ table a f = ap (take a) s ∙ filled-take a f old in
    let past : drop (e - a) (drop a out) ≡ drop e old =
    ap (λ (l : List ℕ). drop (e - a) (drop a l)) s ∙ ap (drop (e - a)) (drop_at (table a f) (drop a old) a (length-table a f)) ∙ drop-drop (e - a) a old ∙ ap (λ (k : ℕ). drop k old) whole_way in
    rw (front, past, is)
    (sym (append_assoc (table a f) (table (e - a) (λ k. f (a + k))) (drop e old)) ∙ ap (λ (l : List ℕ). l ++ drop e old) (table_join a (e - a) f ∙ ap (λ (k : ℕ). table k f) whole_way))

-- a buffer of which the part up to a was filled, and then the part from a on
abbrev pub halfway : ℕ → List ℕ → List ℕ → List ℕ
halfway a old front = front ++ drop (a - 0) (drop 0 old)

pub front-filled : (f : ℕ → ℕ) (a : ℕ) (old front : List ℕ) → front ≡ table (a - 0) (λ k. f (0 + k)) → halfway a old front ≡ filled a f old
front-filled f a old front = part_filled f 0 a old old front (omega arith) refl

pub both_filled : (f : ℕ → ℕ) (a : ℕ) (old front back : List ℕ) → a ≤ length old → front ≡ table (a - 0) (λ k. f (0 + k)) → back ≡ table (length old - a) (λ k. f (a + k)) → take a (halfway a old front) ++ (back ++ drop (length old - a) (drop a (halfway a old front))) ≡ table (length old) f
both_filled f a old front back room first second =
    part_filled f a (length old) old (halfway a old front) back room (front-filled f a old front first) second ∙ filled-all (length old) f old (omega arith)

-- a buffer filled to the table's end is what a promise leaves
pub whole : (n : ℕ) (f : ℕ → ℕ) (old : List ℕ) → filled n f old ≡ table n f ++ drop (length (table n f)) old
whole n f old = ap (λ (k : ℕ). table n f ++ drop k old) (sym (length-table n f))
