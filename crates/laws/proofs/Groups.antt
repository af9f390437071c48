-- Items in groups of a size: where an item stands, and which group and which item a place is. Assumes nothing.
use Prim.Native.Nat.{ℕ, zero, suc, ◌+◌, ◌-◌, ◌*◌, ◌/◌, ◌%◌, ◌≤◌, ◌<◌}
use mathlib.Core.Path.{◌≡◌, sym, ap, ◌∙◌}
use native.Mathlib.Nat.{mul_comm, mul_assoc, mul-mod_left, div-mul-le_self, le-div_iff_mul-le, mul-zero, mul-suc, mul-le-mul_left, mul-le-mul_right, add-mul, one-mul, suc-mul, zero-add, add-zero, div-add-mod, div-add-mod', mod-lt, add-mul-mod_self_right, mul-pos, div-lt_iff_lt-mul, mul-add-div_right, div-eq_of_lt, mul-add-mod_self_right, mod-add-mod, mod-eq_of_lt, dvd_of_mod-eq-zero, mod-eq-zero_of_dvd, dvd_trans, dvd-mul_left}
use native.Mathlib.Decide.{dec_lt}
use native.Mathlib.Omega.{arith}
use borrow.Author.Tests.{eq-eqb, ne_eqb}
use lib.Dec.{eqb}
use Rattle.answer.specs.Outcome.{pick}

-- item b of group a, in groups of m
pub grouped : {a b n m : ℕ} → a < n → b < m → a * m + b < n * m
grouped {a} {b} {n} {m} p q =
    let next : (a + 1) * m ≤ n * m = mul-le-mul_right m (omega arith) in omega (arith, add-mul a 1 m, one-mul m)

pub group_of : (a m : ℕ) {b : ℕ} → b < m → (a * m + b) / m ≡ a
group_of a m {b} h = mul-add-div_right (omega arith) a b ∙ ap (λ (n : ℕ). a + n) (div-eq_of_lt h) ∙ add-zero a

pub item_of : (a m : ℕ) {b : ℕ} → b < m → (a * m + b) % m ≡ b
item_of a m {b} h = mul-add-mod_self_right a m b ∙ mod-eq_of_lt h

pub positive : (a b : ℕ) → {n : ℕ} → n < a * b → 0 < b
positive a zero {n} h = absurd (omega (arith, mul-zero a))
positive a (suc b) h = omega arith

-- between whole groups there is room for a group
pub group_room : (width n at : ℕ) → n % width ≡ 0 → at % width ≡ 0 → at < n → at + width ≤ n
group_room width n at hn ha l = by (dec_lt (at / width) (n / width))
  where
    by : Dec (at / width < n / width) → at + width ≤ n
    by (yes less) = omega (arith, mul-le-mul_left width less, mul-suc width (at / width), div-add-mod n width, div-add-mod at width)
    by (no more) =
        let back : n / width ≤ at / width = omega arith in
        absurd (omega (arith, mul-le-mul_left width back, div-add-mod n width, div-add-mod at width))

-- p places into a group
pub into_group : (width at p : ℕ) → at % width ≡ 0 → p < width → (at + p) % width ≡ p
into_group width at p ha l = sym (mod-add-mod at width p) ∙ rw (ha, zero-add) (mod-eq_of_lt l)

-- groups of several widths are groups of one
pub groups-words : (n channels width : ℕ) → n % (channels * width) ≡ 0 → n % width ≡ 0
groups-words n channels width e = mod-eq-zero_of_dvd width (dvd_trans width (dvd-mul_left width channels) (dvd_of_mod-eq-zero (channels * width) e))

-- an item's group is one of those that hold all items
pub group_among : (k n : ℕ) {x : ℕ} → 0 < k → x < n → x / k < (n + k - 1) / k
group_among k n {x} some h =
    let upto : x / k + 1 ≤ (n + k - 1) / k = (le-div_iff_mul-le {k = k} {x = x / k + 1} {y = n + k - 1} some).1 (omega (arith, div-mul-le_self x k, add-mul (x / k) 1 k, one-mul k)) in omega arith

-- a product is whole in each of its factors
pub whole-last : (a b c : ℕ) → a * (b * c) % c ≡ 0
whole-last a b c = rw (← mul_assoc a b c) (mul-mod_left (a * b) c)

pub whole_middle : (a b c : ℕ) → a * (b * c) % b ≡ 0
whole_middle a b c = rw (mul_comm b c) (whole-last a c b)

-- a place that moves on by one: within its group, and past its end
pub within : (x d : ℕ) → x % d + 1 < d → ((x + 1) / d ≡ x / d) × ((x + 1) % d ≡ x % d + 1)
within x d h =
    let next : x + 1 ≡ x / d * d + (x % d + 1) = omega (arith, div-add-mod' x d) in
    (rw next (group_of (x / d) d h), rw next (item_of (x / d) d h))

pub over : (x d : ℕ) → 0 < d → x % d + 1 ≡ d → ((x + 1) / d ≡ x / d + 1) × ((x + 1) % d ≡ 0)
over x d some h =
    let next : x + 1 ≡ (x / d + 1) * d + 0 = omega (arith, div-add-mod' x d, add-mul (x / d) 1 d, one-mul d) in
    (ap (λ (y : ℕ). y / d) next ∙ group_of (x / d + 1) d some, ap (λ (y : ℕ). y % d) next ∙ item_of (x / d + 1) d some)

-- so which item of its group the next place is
pub turned : (x d : ℕ) → 0 < d → (x + 1) % d ≡ pick (eqb (x % d + 1) d) 0 (x % d + 1)
turned x d some = by (dec_lt (x % d + 1) d)
  where
    by : Dec (x % d + 1 < d) → (x + 1) % d ≡ pick (eqb (x % d + 1) d) 0 (x % d + 1)
    by (yes l) = rw (ne_eqb (x % d + 1) d (λ e. omega arith)) (within x d l).1
    by (no m) = let end : x % d + 1 ≡ d = omega (arith, mod-lt x some) in rw (eq-eqb (x % d + 1) d end) (over x d some end).1

-- more places have as many groups or more
pub more_groups : (x y d : ℕ) → 0 < d → x ≤ y → x / d ≤ y / d
more_groups x y d some h = (le-div_iff_mul-le {k = d} {x = x / d} {y = y} some).1 (omega (arith, div-add-mod' x d))

-- two places that are the same item of their groups are a group apart
pub apart : (a b d : ℕ) → a < b → a % d ≡ b % d → a + d ≤ b
apart a b d l e = by (dec_lt (a / d) (b / d))
  where
    by : Dec (a / d < b / d) → a + d ≤ b
    by (yes m) =
        let up : a / d + 1 ≤ b / d = omega arith in
        omega (arith, mul-le-mul_right d up, add-mul (a / d) 1 d, one-mul d, div-add-mod' a d, div-add-mod' b d)
    by (no m) =
        let up : b / d ≤ a / d = omega arith in
        absurd (omega (arith, mul-le-mul_right d up, div-add-mod' a d, div-add-mod' b d))

-- groups of groups: which group of its row a place is
pub group_in_row : (k per m : ℕ) → 0 < per → 0 < m → k % (per * m) / m ≡ k / m % per
group_in_row k per m some wide =
    let row = per * m in
    let r = k % row in
    let less : r < row = mod-lt k (mul-pos some wide) in
    let inside : r / m < per = (div-lt_iff_lt-mul {k = m} {x = r} {y = per} wide).1 less in
    let all : k ≡ (k / row * per + r / m) * m + r % m = omega (arith, div-add-mod' k row, div-add-mod' r m, add-mul (k / row * per) (r / m) m, mul_assoc (k / row) per m) in
    sym (ap (λ (n : ℕ). n / m % per) all ∙ ap (λ (n : ℕ). n % per) (group_of (k / row * per + r / m) m (mod-lt r wide)) ∙ item_of (k / row) per inside)

-- what is left over of a row of groups leaves what all leaves
pub rest_of_rest : (k per m : ℕ) → k % (per * m) % m ≡ k % m
rest_of_rest k per m =
    let row = per * m in
    let all : k ≡ k % row + k / row * per * m = omega (arith, div-add-mod' k row, mul_assoc (k / row) per m) in
    sym (ap (λ (n : ℕ). n % m) all ∙ add-mul-mod_self_right (k % row) (k / row * per) m)

-- groups of a width, a turn for each: where the next begins, that one is there, and what all of them come to
pub turn_next : (n width : ℕ) → (n + 1) * width ≡ n * width + width
turn_next n width = omega (arith, add-mul n 1 width, one-mul width)

pub turn_room : (n width all : ℕ) → n < all / width → n * width + width ≤ all
turn_room n width all h = omega (arith, mul-le-mul_right width h, suc-mul n width, div-add-mod' all width)

pub turns_all : (width all : ℕ) → all % width ≡ 0 → all / width * width ≡ all
turns_all width all whole = omega (arith, div-add-mod' all width, whole)
