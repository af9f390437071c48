-- Swapping twice gives the first bytes back: a theorem over the promises of two calls, for every width. Assumes nothing.
use Rattle.std.specs.Prelude.{Ok}
use mathlib.Core.Path.{◌≡◌, sym, ap, ◌∙◌}
use mathlib.Core.List.{List}
use Prim.Native.Nat.{ℕ, ◌%◌, ◌<◌}
use native.Mathlib.Omega.{arith}
use borrow.Author.Tests.{eqb-true, eqb-false, not-false}
use lib.ListN.{length, get_or, take}
use lib.Dec.{eqb}
use Rattle.answer.specs.Table.{table}
use Rattle.answer.proofs.Promised.{second_over_first, done-sound, sound-here, sound_rest}
use Rattle.answer.proofs.Filling.{table_at, table_same, table_self}
use Rattle.swaps.specs.Swapped.{mirror, swapped_at, swap_faults, Swapped}
use Rattle.swaps.proofs.Mirror.{mirror_below, mirror-mirror}

-- what is swapped, swapped
swapped_back : (raw : List ℕ) (width : ℕ) → 0 < width → length raw % width ≡ 0 → table (length raw) (swapped_at (table (length raw) (swapped_at raw width)) width) ≡ raw
swapped_back raw width some groups =
    table_same (length raw) _ _ (λ k h. table_at (length raw) (swapped_at raw width) (mirror width k) (mirror_below width (length raw) k some groups h) ∙ ap (λ (j : ℕ). get_or raw j 0) (mirror-mirror width k some))
    ∙ table_self raw

pub swap_twice : (raw old x old' y : List ℕ) (width : ℕ) → Swapped raw width old (Ok tt) x → Swapped (take (length raw) x) width old' (Ok tt) y → take (length raw) y ≡ raw
swap_twice raw old x old' y width p q =
    let n = length raw in
    let sound = done-sound (swap_faults raw width old) tt tt (sym p.answers) in
    let some : 0 < width = omega (arith, eqb-false width 0 (sound-here sound)) in
    let groups : n % width ≡ 0 = eqb-true (n % width) 0 (not-false (eqb (n % width) 0) (sound-here (sound_rest (sound_rest sound)))) in
    second_over_first n (swapped_at raw width) (λ l. swapped_at l width) old x old' y tt tt p q ∙ swapped_back raw width some groups
