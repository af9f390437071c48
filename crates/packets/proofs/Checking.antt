-- The check, put together: its loops' ends, and which of its tests decides. Assumes nothing.
use mathlib.Core.Path.{◌≡◌, refl, sym, ap, ◌∙◌}
use mathlib.Core.Bool.{Bool, true, false, not, ◌&&◌, and-true, and_assoc}
use mathlib.Core.List.{List, [], ◌∷◌}
use Prim.Native.Nat.{ℕ, zero, suc, ◌+◌, ◌-◌, ◌≤◌, ◌<◌}
use native.Mathlib.Decide.{dec_lt}
use native.Mathlib.Omega.{arith}
use native.Mathlib.Nat.{add-zero, add-suc}
use borrow.Author.Tests.{ne_eqb, lt-ltb, le-ltb, le-leb, lt-leb, not-true}
use lib.Dec.{ltb, leb, eqb}
use lib.Bits.{bit_or, or_zero_r, or_add_and, and_le_l}
use lib.ListN.{length, get_or}
use Rattle.answer.specs.Outcome.{Fault, pick, First, here, later, Sound, none, next}
use Rattle.words.specs.Word.{modulus}
use Rattle.laws.specs.Turns.{every}
use Rattle.answer.proofs.Filling.{part, length_part, part_at}
use Rattle.laws.proofs.Turns.{every-same}
use Rattle.laws.proofs.Says.{both, up}
use Rattle.packets.specs.declared.Plan.{Plan}
use Rattle.packets.specs.State.{clear, tail_right, sum_right, tails_right, sums_right, consistent}
use Rattle.packets.specs.Promises.{plan, state}

pub sound-clear : {fs : List Fault} → Sound fs → clear fs ≡ true
sound-clear none = refl
sound-clear (next t s) = rw (t, sound-clear s)

pub first-clear : {fs : List Fault} {n : ℕ} → First fs n → clear fs ≡ false
first-clear (here t) = rw t
first-clear (later t r) = rw (t, first-clear r)

pub clear-sound : (fs : List Fault) → clear fs ≡ true → Sound fs
clear-sound [] e = none
clear-sound (f ∷ fs) e = let two = (both (up (not f.found)) (up (clear fs))).tells e in next (not-true f.found two.0) (clear-sound fs two.1)

-- the byte orders decide nothing
pub any_order : (p : Plan) (k : ℕ) (tail sums : List ℕ) → consistent (state (plan p.row_bytes p.channels p.width true p.predict true) k tail sums) ≡ consistent (state p k tail sums)
unfolding consistent
any_order p k tail sums = refl

-- so a check of the rest is a check of the state
pub order_checked : (p : Plan) (k : ℕ) (tail sums : List ℕ) {r : Bool} → r ≡ consistent (state (plan p.row_bytes p.channels p.width true p.predict true) k tail sums) → consistent (state p k tail sums) ≡ r
order_checked p k tail sums e = sym (e ∙ any_order p k tail sums)

-- a loop that came to its end has tested all
pub tails-all : (tail : List ℕ) (begun : ℕ) {n : ℕ} {right : Bool} → n ≤ 8 → 8 ≤ n → right ≡ every n (tail_right tail begun) → right ≡ tails_right tail begun
unfolding tails_right
tails-all tail begun {n} low high e = let all : n ≡ 8 = omega arith in e ∙ ap (λ (m : ℕ). every m (tail_right tail begun)) all

pub sums-all : (sums : List ℕ) (width begun : ℕ) {n : ℕ} {right : Bool} → n ≤ 64 → 64 ≤ n → right ≡ every n (sum_right sums width begun) → right ≡ sums_right sums width begun
unfolding sums_right
sums-all sums width begun {n} low high e = let all : n ≡ 64 = omega arith in e ∙ ap (λ (m : ℕ). every m (sum_right sums width begun)) all

-- a test over turns, and over those behind them
every-on : (n : ℕ) (t : ℕ → Bool) (m : ℕ) → (every n t && every m (λ i. t (n + i))) ≡ every (n + m) t
every-on n t zero = rw (add-zero n) (and-true (every n t))
every-on n t (suc m) = rw (add-suc n m, ← every-on n t m) (sym (and_assoc (every n t) (every m (λ i. t (n + i))) (t (n + m))))

-- at most the greatest word is below the modulus
sum_below : (x greatest m : ℕ) → greatest + 1 ≡ m → leb x greatest ≡ ltb x m
sum_below x greatest m e = by (dec_lt x m)
  where
    by : Dec (x < m) → leb x greatest ≡ ltb x m
    by (yes l) = le-leb x greatest (omega arith) ∙ sym (lt-ltb x m l)
    by (no g) = lt-leb x greatest (omega arith) ∙ sym (le-ltb x m (omega arith))

-- what is asked of a sum that is there, and of one that is not
module _ (sums : List ℕ) (width begun i : ℕ) where
  pub sum-there : (greatest : ℕ) → i < begun → greatest + 1 ≡ modulus width → leb (get_or sums i 0) greatest ≡ sum_right sums width begun i
  sum-there greatest h e = rw (lt-ltb i begun h) (sum_below (get_or sums i 0) greatest (modulus width) e)

  pub sum-none : begun ≤ i → eqb (get_or sums i 0) 0 ≡ sum_right sums width begun i
  sum-none h = rw (le-ltb i begun h)

-- the bits of two numbers together are none exactly if those of each are
pub or_none : (a b : ℕ) → eqb (bit_or a b) 0 ≡ (eqb a 0 && eqb b 0)
or_none a b = by (dec_lt 0 a) (dec_lt 0 b)
  where
    by : Dec (0 < a) → Dec (0 < b) → eqb (bit_or a b) 0 ≡ (eqb a 0 && eqb b 0)
    by (no g) d = let e : a ≡ 0 = omega arith in rw e
    by (yes h) (no g) = let e : b ≡ 0 = omega arith in rw (e, or_zero_r a, ne_eqb a 0 (λ z. omega arith))
    by (yes h) (yes l) = rw (ne_eqb (bit_or a b) 0 (λ z. omega (arith, or_add_and a b, and_le_l a b)), ne_eqb a 0 (λ z. omega arith))

-- the sums up to a place are right, and all from there to another are 0
pub sums_none : (sums : List ℕ) (width begun a e : ℕ) {right none : Bool} → begun ≤ a → a ≤ e → e ≤ length sums → right ≡ every a (sum_right sums width begun) → none ≡ every (length (part a e sums)) (λ i. eqb (get_or (part a e sums) i 0) 0) → (right && none) ≡ every e (sum_right sums width begun)
sums_none sums width begun a e low inside within so_far rest =
    let t : ℕ → Bool = sum_right sums width begun in
    let all : a + (e - a) ≡ e = omega arith in
    rw (so_far, rest, length_part a e sums inside within)
    (ap (λ (b : Bool). every a t && b)
    (every-same (e - a) _ (λ i. t (a + i)) (λ i h. ap (λ (x : ℕ). eqb x 0) (part_at a e sums i h) ∙ sum-none sums width begun (a + i) (omega arith)))
    ∙ every-on a t (e - a)
    ∙ ap (λ (n : ℕ). every n t) all)

-- no more channels have a sample than there are
pub begun-few : (predict : Bool) (begun channels : ℕ) → pick predict (pick (ltb begun channels) begun channels) 0 ≤ channels
begun-few false begun channels = omega arith
begun-few true begun channels = by (dec_lt begun channels)
  where
    by : Dec (begun < channels) → pick (ltb begun channels) begun channels ≤ channels
    by (yes l) = rw (lt-ltb begun channels l) (omega arith)
    by (no g) = rw (le-ltb begun channels (omega arith)) (omega arith)
