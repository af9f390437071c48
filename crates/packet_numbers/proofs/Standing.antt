-- Numbers that stand for a state of packets: how they are put together, and that the state is read back from them. Assumes nothing.
use mathlib.Core.Path.{◌≡◌, refl, sym, ap, ◌∙◌}
use mathlib.Core.Bool.{Bool, true, false, not, ◌||◌}
use mathlib.Core.List.{List, [], ◌∷◌}
use Prim.Native.Nat.{ℕ, zero, suc, ◌+◌, ◌-◌, ◌^◌, ◌≤◌, ◌<◌}
use native.Mathlib.Nat.{mod-eq_of_lt}
use native.Mathlib.Decide.{dec_lt, ℕ_discrete}
use native.Mathlib.Omega.{arith}
use borrow.Author.Tests.{eq-eqb, ne_eqb, eqb-true, ltb-false, not-false}
use lib.Dec.{ltb, eqb}
use lib.ListN.{length, get_or, set, length-set}
use lib.Seq.{ext_get_or, get_or-set_same, get_or-set_other}
use Rattle.std.specs.Int.{from_bool}
use Rattle.answer.specs.Table.{table, stores}
use Rattle.answer.proofs.Filling.{part, part_table, length-table, table_at, table_same, table_self, length-stores, stores_at, stores_rest}
use Rattle.words.specs.Digits.{digit, value}
use Rattle.words.specs.Word.{Bytes}
use Rattle.words.proofs.Digits.{digit_value, value-digit, value_same}
use Rattle.laws.specs.Turns.{every}
use Rattle.laws.proofs.Says.{clash, neither}
use Rattle.laws.proofs.Turns.{every_one, every-all, every-same}
use Rattle.packets.specs.declared.Packets.{Packets}
use Rattle.packets.specs.Promises.{state}
use Rattle.packet_numbers.specs.Numbers.{flag_of, tail_of, sums_in, plan_in, state_of, unused, all_unused, strays, with_sums, Stands}
use Rattle.packet_numbers.proofs.Splices.{spliced, length_spliced, spliced_front, spliced_part, spliced_rest}

-- the sums where they stand
pub sums_part : (s : List ℕ) → length s ≡ 80 → part 8 72 s ≡ sums_in s
unfolding sums_in
sums_part s long = part_table 8 72 s (omega arith) (omega (arith, long))

-- a loop that came to its end has stored all sums, and looked at all numbers that are not used
pub with_all : (sums : List ℕ) {n : ℕ} {s : List ℕ} → n ≤ 64 → 64 ≤ n → s ≡ stores (table 80 (λ j. 0)) 8 n (λ j. get_or sums j 0) → s ≡ with_sums sums
unfolding with_sums
with_all sums {n} low high e = let all : n ≡ 64 = omega arith in e ∙ ap (λ (m : ℕ). stores (table 80 (λ j. 0)) 8 m (λ j. get_or sums j 0)) all

pub unused-all : (s : List ℕ) {n : ℕ} {none : Bool} → n ≤ 8 → 8 ≤ n → none ≡ every n (unused s) → none ≡ all_unused s
unfolding all_unused
unused-all s {n} low high e = let all : n ≡ 8 = omega arith in e ∙ ap (λ (m : ℕ). every m (unused s)) all

-- a flag's number, and that number read as a flag
pub flag_is : (b : Bool) → from_bool b ≡ flag_of b
flag_is true = refl
flag_is false = refl

flag_back : (b : Bool) → not (eqb (flag_of b) 0) ≡ b
flag_back true = refl
flag_back false = refl

flag_small : (b : Bool) → ltb 1 (flag_of b) ≡ false
flag_small true = refl
flag_small false = refl

-- eight bytes joined and taken apart
tail_joined : (v : ℕ) (tail : List ℕ) → length tail ≡ 8 → Bytes tail → v ≡ value 256 8 (λ p. get_or tail p 0) → tail_of v ≡ tail
tail_joined v tail tails bytes joined =
    table_same 8 (λ j. digit 256 j v) (λ j. get_or tail j 0) (λ j h. rw joined (digit_value 256 8 (λ p. get_or tail p 0) (λ p l. bytes p) j h))
    ∙ (rw tails at (table_self tail))

-- numbers that do not stray are 80
pub kept-long : (s : List ℕ) → strays s ≡ false → length s ≡ 80
kept-long s e = eqb-true (length s) 80 (not-false (eqb (length s) 80) (neither (not (eqb (length s) 80)) _ e).0)

abbrev pub front : Packets → ℕ → List ℕ
front st tail =
    st.plan.row_bytes
    ∷ st.plan.channels
    ∷ st.plan.width
    ∷ flag_of st.plan.le
    ∷ flag_of st.plan.predict
    ∷ flag_of st.plan.out_le
    ∷ st.received
    ∷ tail
    ∷ []

-- the first eight numbers stored before the sums
abbrev pub numbers : Packets → ℕ → List ℕ
numbers st tail = stores (with_sums st.sums) 0 8 (λ p. get_or (front st tail) p 0)

module _ (st : Packets) (tail : ℕ) (tails : length st.tail ≡ 8) (sums : length st.sums ≡ 64) (bytes : Bytes st.tail) (joined : tail ≡ value 256 8 (λ p. get_or st.tail p 0)) where
  abbrev s : List ℕ
  s = numbers st tail

  sums-long : length (with_sums st.sums) ≡ 80
  unfolding with_sums
  sums-long = length-stores (table 80 (λ j. 0)) 8 64 (λ j. get_or st.sums j 0) ∙ length-table 80 (λ j. 0)

  first : (p : ℕ) → p < 8 → get_or s (0 + p) 0 ≡ get_or (front st tail) p 0
  first p h = stores_at (with_sums st.sums) 0 8 (λ q. get_or (front st tail) q 0) p h (omega (arith, sums-long))

  later : (k : ℕ) → 8 ≤ k → get_or s k 0 ≡ get_or (with_sums st.sums) k 0
  later k h = stores_rest (with_sums st.sums) 0 8 (λ q. get_or (front st tail) q 0) k (λ l. omega arith)

  sum_at_lem : (j : ℕ) → j < 64 → get_or s (8 + j) 0 ≡ get_or st.sums j 0
  unfolding with_sums
  sum_at_lem j h = later (8 + j) (omega arith) ∙ stores_at (table 80 (λ j. 0)) 8 64 (λ i. get_or st.sums i 0) j h (omega (arith, length-table 80 (λ j. 0)))

  none-at : (j : ℕ) → j < 8 → get_or s (72 + j) 0 ≡ 0
  unfolding with_sums
  none-at j h = later (72 + j) (omega arith) ∙ stores_rest (table 80 (λ j. 0)) 8 64 (λ i. get_or st.sums i 0) (72 + j) (λ l. omega arith) ∙ table_at 80 (λ j. 0) (72 + j) (omega arith)

  none-used : all_unused s ≡ true
  unfolding all_unused
  none-used = every-all 8 (unused s) (λ j h. eq-eqb (get_or s (72 + j) 0) 0 (none-at j h))

  sums-back : sums_in s ≡ st.sums
  unfolding sums_in
  sums-back = table_same 64 (λ j. get_or s (8 + j) 0) (λ j. get_or st.sums j 0) sum_at_lem ∙ (rw sums at (table_self st.sums))

  s_long : length s ≡ 80
  s_long = length-stores (with_sums st.sums) 0 8 (λ p. get_or (front st tail) p 0) ∙ sums-long

  pub stands : Stands st s
  stands = record {
    kept = rw (eq-eqb (length s) 80 s_long, first 3 (omega arith), first 4 (omega arith), first 5 (omega arith), none-used, flag_small st.plan.le, flag_small st.plan.predict, flag_small st.plan.out_le);
    state = rw (first 0 (omega arith), first 1 (omega arith), first 2 (omega arith), first 3 (omega arith), first 4 (omega arith), first 5 (omega arith), first 6 (omega arith), first 7 (omega arith), flag_back st.plan.le, flag_back st.plan.predict, flag_back st.plan.out_le, tail_joined tail st.tail tails bytes joined, sums-back);
  }

-- numbers of which the sums, the bytes received and the unfinished word are altered where they stand
module _ (s : List ℕ) (kept : strays s ≡ false) (sums tail : List ℕ) (received v : ℕ) (held : length sums ≡ 64) (tails : length tail ≡ 8) (bytes : Bytes tail) (joined : v ≡ value 256 8 (λ p. get_or tail p 0)) where
  abbrev spread : List ℕ
  spread = spliced 8 72 s sums

  abbrev moved : List ℕ
  moved = set (set spread 6 received) 7 v

  long : length s ≡ 80
  long = kept-long s kept

  spread_long : length spread ≡ 80
  spread_long = length_spliced 8 72 s sums (omega arith) (omega (arith, long)) held ∙ long

  moved_long : length moved ≡ 80
  moved_long = rw (length-set, length-set) spread_long

  moved_at : (i : ℕ) → (i ≡ 6 → ⊥) → (i ≡ 7 → ⊥) → get_or moved i 0 ≡ get_or spread i 0
  moved_at i n6 n7 = get_or-set_other (set spread 6 received) 7 i v 0 n7 ∙ get_or-set_other spread 6 i received 0 n6

  moved_front : (i : ℕ) → i < 6 → get_or moved i 0 ≡ get_or s i 0
  moved_front i h = moved_at i (λ e. omega arith) (λ e. omega arith) ∙ spliced_front 8 72 s sums (omega arith) (omega (arith, long)) held i (omega arith)

  moved_received : get_or moved 6 0 ≡ received
  moved_received = get_or-set_other (set spread 6 received) 7 6 v 0 (λ e. omega arith) ∙ get_or-set_same spread 6 received 0 (omega (arith, spread_long))

  moved_tail : get_or moved 7 0 ≡ v
  moved_tail = get_or-set_same (set spread 6 received) 7 v 0 (rw length-set (omega (arith, spread_long)))

  moved_unused : (j : ℕ) → get_or moved (72 + j) 0 ≡ get_or s (72 + j) 0
  moved_unused j = moved_at (72 + j) (λ e. omega arith) (λ e. omega arith) ∙ spliced_rest 8 72 s sums (omega arith) (omega (arith, long)) held j

  moved_none : all_unused moved ≡ all_unused s
  unfolding all_unused
  moved_none = every-same 8 (unused moved) (unused s) (λ j h. ap (λ (n : ℕ). eqb n 0) (moved_unused j))

  moved_sums : sums_in moved ≡ sums
  unfolding sums_in
  moved_sums =
      table_same 64 (λ j. get_or moved (8 + j) 0) (λ j. get_or sums j 0) (λ j h. moved_at (8 + j) (λ e. omega arith) (λ e. omega arith) ∙ spliced_part 8 72 s sums (omega arith) (omega (arith, long)) held j h)
      ∙ (rw held at (table_self sums))

  pub moved_stands : Stands (state (plan_in s) received tail sums) moved
  moved_stands = record {
    kept = rw (eq-eqb (length moved) 80 moved_long, moved_front 3 (omega arith), moved_front 4 (omega arith), moved_front 5 (omega arith), moved_none) (neither (not (eqb (length s) 80)) _ kept).1;
    state = rw (moved_front 0 (omega arith), moved_front 1 (omega arith), moved_front 2 (omega arith), moved_front 3 (omega arith), moved_front 4 (omega arith), moved_front 5 (omega arith), moved_received, moved_tail, tail_joined v tail tails bytes joined, moved_sums);
  }

-- numbers that stand for one state are the same, being 80 numbers of 64 bits
pub record Numbers (s : List ℕ) : Type 0 where
  pub long : length s ≡ 80
  pub small : (i : ℕ) → get_or s i 0 < 256 ^ 8

-- a number that is a flag is told by the flag
flag_told : (x y : ℕ) → x ≤ 1 → y ≤ 1 → not (eqb x 0) ≡ not (eqb y 0) → x ≡ y
flag_told x y a b e = by (ℕ_discrete x 0) (ℕ_discrete y 0)
  where
    by : Dec (x ≡ 0) → Dec (y ≡ 0) → x ≡ y
    by (yes p) (yes q) = p ∙ sym q
    by (yes p) (no q) = clash (ap not (ne_eqb y 0 q)) (sym e ∙ ap not (eq-eqb x 0 p))
    by (no p) (yes q) = clash (ap not (ne_eqb x 0 p)) (e ∙ ap not (eq-eqb y 0 q))
    by (no p) (no q) = omega arith

tail_told : (v w : ℕ) → v < 256 ^ 8 → w < 256 ^ 8 → tail_of v ≡ tail_of w → v ≡ w
tail_told v w a b e =
    sym (mod-eq_of_lt a)
    ∙ sym (value-digit 256 8 v (omega arith))
    ∙ value_same 256 8 (λ p. digit 256 p v) (λ p. digit 256 p w) (λ p h. sym (table_at 8 (λ j. digit 256 j v) p h) ∙ ap (λ (l : List ℕ). get_or l p 0) e ∙ table_at 8 (λ j. digit 256 j w) p h)
    ∙ value-digit 256 8 w (omega arith)
    ∙ mod-eq_of_lt b

module _ {st : Packets} {s t : List ℕ} (ns : Numbers s) (nt : Numbers t) (p : Stands st s) (q : Stands st t) where
  same-state : state_of s ≡ state_of t
  same-state = p.state ∙ sym q.state

  small_flags : (l : List ℕ) → strays l ≡ false → (get_or l 3 0 ≤ 1) × ((get_or l 4 0 ≤ 1) × ((get_or l 5 0 ≤ 1) × (all_unused l ≡ true)))
  small_flags l e =
      let flags = (neither (not (eqb (length l) 80)) (((ltb 1 (get_or l 3 0) || ltb 1 (get_or l 4 0)) || ltb 1 (get_or l 5 0)) || not (all_unused l)) e).1 in
      let outer = neither ((ltb 1 (get_or l 3 0) || ltb 1 (get_or l 4 0)) || ltb 1 (get_or l 5 0)) (not (all_unused l)) flags in
      let inner = neither (ltb 1 (get_or l 3 0) || ltb 1 (get_or l 4 0)) (ltb 1 (get_or l 5 0)) outer.0 in
      let first_two = neither (ltb 1 (get_or l 3 0)) (ltb 1 (get_or l 4 0)) inner.0 in
      (ltb-false 1 (get_or l 3 0) first_two.0, (ltb-false 1 (get_or l 4 0) first_two.1, (ltb-false 1 (get_or l 5 0) inner.1, not-false (all_unused l) outer.1)))

  none_left : (l : List ℕ) → all_unused l ≡ true → (j : ℕ) → j < 8 → get_or l (72 + j) 0 ≡ 0
  unfolding all_unused
  none_left l e j h = eqb-true (get_or l (72 + j) 0) 0 (every_one 8 (unused l) e j h)

  same_sum : (j : ℕ) → j < 64 → get_or s (8 + j) 0 ≡ get_or t (8 + j) 0
  unfolding sums_in
  same_sum j h = sym (table_at 64 (λ i. get_or s (8 + i) 0) j h) ∙ ap (λ (x : Packets). get_or x.sums j 0) same-state ∙ table_at 64 (λ i. get_or t (8 + i) 0) j h

  front_same : (i : ℕ) → i < 8 → get_or s i 0 ≡ get_or t i 0
  front_same zero h = ap (λ (x : Packets). x.plan.row_bytes) same-state
  front_same (suc zero) h = ap (λ (x : Packets). x.plan.channels) same-state
  front_same (suc (suc zero)) h = ap (λ (x : Packets). x.plan.width) same-state
  front_same (suc (suc (suc zero))) h = flag_told (get_or s 3 0) (get_or t 3 0) (small_flags s p.kept).0 (small_flags t q.kept).0 (ap (λ (x : Packets). x.plan.le) same-state)
  front_same (suc (suc (suc (suc zero)))) h = flag_told (get_or s 4 0) (get_or t 4 0) (small_flags s p.kept).1.0 (small_flags t q.kept).1.0 (ap (λ (x : Packets). x.plan.predict) same-state)
  front_same (suc (suc (suc (suc (suc zero))))) h = flag_told (get_or s 5 0) (get_or t 5 0) (small_flags s p.kept).1.1.0 (small_flags t q.kept).1.1.0 (ap (λ (x : Packets). x.plan.out_le) same-state)
  front_same (suc (suc (suc (suc (suc (suc zero)))))) h = ap (λ (x : Packets). x.received) same-state
  front_same (suc (suc (suc (suc (suc (suc (suc zero))))))) h = tail_told (get_or s 7 0) (get_or t 7 0) (ns.small 7) (nt.small 7) (ap (λ (x : Packets). x.tail) same-state)
  front_same (suc (suc (suc (suc (suc (suc (suc (suc i)))))))) h = absurd (omega arith)

  back-same : (j : ℕ) → j < 72 → get_or s (8 + j) 0 ≡ get_or t (8 + j) 0
  back-same j h = by (dec_lt j 64)
    where
      by : Dec (j < 64) → get_or s (8 + j) 0 ≡ get_or t (8 + j) 0
      by (yes l) = same_sum j l
      by (no m) =
          let there : 8 + j ≡ 72 + (j - 64) = omega arith in
          rw there (none_left s (small_flags s p.kept).1.1.1 (j - 64) (omega arith) ∙ sym (none_left t (small_flags t q.kept).1.1.1 (j - 64) (omega arith)))

  at : (i : ℕ) → i < 80 → get_or s i 0 ≡ get_or t i 0
  at i h = by (dec_lt i 8)
    where
      by : Dec (i < 8) → get_or s i 0 ≡ get_or t i 0
      by (yes l) = front_same i l
      by (no m) = let there : 8 + (i - 8) ≡ i = omega arith in rw there at (back-same (i - 8) (omega arith))

  pub stands_once : s ≡ t
  stands_once = ext_get_or 0 s t (ns.long ∙ sym nt.long) (λ i l. at i (omega (arith, ns.long)))
