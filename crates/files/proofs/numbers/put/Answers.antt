-- `files::numbers::put` meets its contract: the digits so far are stored, and what is left of the number is its digits after them. Assumes nothing.
use native.Mathlib.Nat.{div-div-eq-div-mul, pow-suc}
use native.Mathlib.Numerals.{add-one}
use mathlib.Core.Path.{◌≡◌, refl, sym, ap, ◌∙◌}
use Prim.Native.Nat.{ℕ, ◌+◌, ◌/◌, ◌%◌, ◌^◌}
use lib.ListN.{set}
use Rattle.answer.specs.Table.{stores}
use Rattle.words.specs.Digits.{digit}
use Rattle.files.proofs.numbers.put.Goals as goal

pub loop-p-preserved : goal.loop-p-preserved
loop-p-preserved g c =
    let at = c.loop-p in
    let v = c.args.v in
    let less : at.rest / 256 ≡ v / 256 ^ (at.p + 1) = rw (add-one, at.invariant.0) (div-div-eq-div-mul v (256 ^ at.p) 256 ∙ ap (λ (x : ℕ). v / x) (sym (pow-suc 256 at.p))) in
    let more : set at.out (c.args.at + at.p) (at.rest % 256) ≡ stores c.args.out.now c.args.at (at.p + 1) (λ j. digit 256 j v) = rw (add-one, at.invariant.0, at.invariant.1) refl in
    (less, more)
