-- `writing::levels::check_levels` meets its contract: the bytes of the picture alone are looked at. Assumes nothing.
use borrow.Author.Tests.{eq-eqb}
use native.Mathlib.Omega.{arith}
use mathlib.Core.Path.{◌≡◌, ap, ◌∙◌}
use Prim.Native.Nat.{ℕ}
use lib.ListN.{length, take, length-take}
use lib.Seq.{get_or-take}
use Rattle.pixels.specs.Planes.{two_levels}
use Rattle.writing.proofs.Search.{levels_same}
use Rattle.writing.proofs.levels.check_levels.Goals as goal

pub returns : goal.returns
returns c =
    let l = c.args.l in
    let picture = c.args.picture.now in
    let bytes = take l.output_len picture in
    let long : length bytes ≡ l.output_len = length-take l.output_len picture ∙ omega (arith, c.requires.all) in
    let front : two_levels (length bytes) bytes ≡ two_levels l.output_len picture = ap (λ (n : ℕ). two_levels n bytes) long ∙ levels_same l.output_len bytes picture (λ k h. get_or-take l.output_len picture k 0 h) in
    let found : c.two_levels.result ≡ two_levels l.output_len picture = c.two_levels.ensures ∙ front in
    rw (eq-eqb l.fields.slots 8 c.if-l-ne8.false, ← found) c.fault.ensures
