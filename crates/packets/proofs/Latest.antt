-- The last of a channel's samples: none, the one `channels` before, and one more. Assumes nothing.
use mathlib.Core.Path.{◌≡◌, refl, sym, ap}
use Prim.Native.Nat.{ℕ, zero, suc, ◌+◌, ◌-◌, ◌%◌, ◌≤◌, ◌<◌}
use native.Mathlib.Nat.{mod-eq_of_lt, add-mod_right}
use native.Mathlib.Decide.{ℕ_discrete}
use native.Mathlib.Omega.{arith}
use borrow.Author.Tests.{eq-eqb, ne_eqb}
use lib.Dec.{eqb}
use Rattle.answer.specs.Outcome.{pick}
use Rattle.packets.specs.State.{latest}
use Rattle.laws.proofs.Groups.{apart}

module _ (channels : ℕ) (v : ℕ → ℕ) (j : ℕ) where
  pub latest-none : (m : ℕ) → ((i : ℕ) → i < m → i % channels ≡ j → ⊥) → latest channels v m j ≡ 0
  latest-none zero none = refl
  latest-none (suc m) none = rw (ne_eqb (m % channels) j (none m (omega arith))) (latest-none m (λ i h. none i (omega arith)))

  pub latest-is : (m i : ℕ) → i < m → i % channels ≡ j → ((q : ℕ) → i < q → q < m → q % channels ≡ j → ⊥) → latest channels v m j ≡ v i
  latest-is zero i h e last = absurd (omega arith)
  latest-is (suc m) i h e last = by (ℕ_discrete i m) (λ l. latest-is m i l e (λ q a b. last q a (omega arith)))
    where
      by : Dec (i ≡ m) → (i < m → latest channels v m j ≡ v i) → pick (eqb (m % channels) j) (v m) (latest channels v m j) ≡ v i
      by (yes same) before = let here : m % channels ≡ j = rw same at e in rw (eq-eqb (m % channels) j here) (ap v (sym same))
      by (no other) before = let less : i < m = omega arith in rw (ne_eqb (m % channels) j (last m less (omega arith))) (before less)

-- the first of its channel finds nothing
pub latest-first : (channels : ℕ) (v : ℕ → ℕ) (m : ℕ) → m < channels → latest channels v m (m % channels) ≡ 0
latest-first channels v m h =
    latest-none channels v (m % channels) m (λ i l e. omega (arith, mod-eq_of_lt {n = m} {m = channels} h, mod-eq_of_lt {n = i} {m = channels} (omega arith)))

-- a later one the sample `channels` before
pub latest-back : (channels : ℕ) (v : ℕ → ℕ) (m : ℕ) → 0 < channels → channels ≤ m → latest channels v m (m % channels) ≡ v (m - channels)
latest-back channels v m some h =
    let on : m - channels + channels ≡ m = omega arith in
    latest-is channels v (m % channels) m (m - channels) (omega arith) (sym (rw on at (add-mod_right (m - channels) channels)))
    (λ q a b e. omega (arith, apart q m channels b e))
