-- The loop that swaps: its invariant, how a turn keeps it, and what it comes to at the end. Assumes nothing.
use mathlib.Core.Path.{◌≡◌, refl, sym, ap, ◌∙◌}
use mathlib.Core.List.{List}
use Prim.Native.Nat.{ℕ, ◌+◌, ◌-◌, ◌*◌, ◌%◌, ◌≤◌, ◌<◌}
use native.Mathlib.Nat.{add-mod_right, zero-mul, zero-mod}
use native.Mathlib.Omega.{arith}
use lib.ListN.{length, get_or}
use Rattle.answer.specs.Table.{filled}
use Rattle.answer.proofs.Filling.{length-stores, stores-filled}
use Rattle.swaps.specs.Swapped.{swapped_at, SwapFits, SwappedInto, Backwards}
use Rattle.laws.proofs.Groups.{group_room}
use Rattle.swaps.proofs.Mirror.{mirror-at}

pub record Swapping (raw : List ℕ) (width : ℕ) (old : List ℕ) (at : ℕ) (out : List ℕ) : Type 0 where
  pub inside : at ≤ length raw
  pub groups : at % width ≡ 0
  pub same : length out ≡ length old
  pub so_far : out ≡ filled at (swapped_at raw width) old

pub begun : (raw : List ℕ) (width : ℕ) (old : List ℕ) → Swapping raw width old (0 * width) old
begun raw width old = rw (zero-mul width) (record { inside = omega arith; groups = zero-mod width; same = refl; so_far = refl })

module _ {raw : List ℕ} {width : ℕ} {old : List ℕ} {at : ℕ} {out : List ℕ} (fits : SwapFits raw width old) (is : Swapping raw width old at out) where
  pub room : at < length raw → at + width ≤ length raw
  room l = group_room width (length raw) at fits.groups is.groups l

  -- a turn: the group at `at`, backwards
  pub turned : at < length raw → (new : List ℕ) → Backwards raw at width out at new → Swapping raw width old (at + width) new
  turned l new e = record {
    inside = room l;
    groups = add-mod_right at width ∙ is.groups;
    same = ap length e ∙ length-stores out at width (λ p. get_or raw (at + (width - 1 - p)) 0) ∙ is.same;
    so_far = e ∙ stores-filled (swapped_at raw width) (λ p. get_or raw (at + (width - 1 - p)) 0) old out at width (λ p h. ap (λ (k : ℕ). get_or raw k 0) (sym (mirror-at width at p is.groups h))) (omega (arith, room l, fits.room)) is.so_far;
  }

  pub ended : length raw ≤ at → SwappedInto raw width old out
  ended l = let all : at ≡ length raw = omega (arith, is.inside) in rw all at is.so_far
