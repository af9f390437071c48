-- `pixels::straighten_pixel` meets its contract: the colours before the alpha byte, one store each. Assumes nothing.
use native.Mathlib.Numerals.{add-one}
use borrow.Author.Rules.{rules}
use native.Mathlib.Omega.{arith}
use Prim.Native.Nat.{ℕ, ◌+◌, ◌<◌}
use mathlib.Core.Path.{◌≡◌, ap, ◌∙◌}
use mathlib.Core.List.{List}
use lib.ListN.{get_or, length-set}
use Rattle.answer.proofs.Filling.{stores_rest}
use Rattle.pixels.specs.Render.{straight_colour}
use Rattle.pixels.proofs.straighten_pixel.Goals as goal

pub loop-c-preserved : goal.loop-c-preserved
loop-c-preserved c =
    let args = c.args in
    let old = args.s.now in
    let alpha : get_or old (args.at + args.last) 0 < 256 = search rules in
    let g : ℕ → ℕ = λ j. straight_colour args.multiplied args.white (get_or old (args.at + j) 0) (get_or old (args.at + args.last) 0) in
    let unread : get_or c.loop-c.s (args.at + c.loop-c.c) 0 ≡ get_or old (args.at + c.loop-c.c) 0 = ap (λ (l : List ℕ). get_or l (args.at + c.loop-c.c) 0) c.loop-c.invariant.1 ∙ stores_rest old args.at c.loop-c.c g (args.at + c.loop-c.c) (λ h. omega arith) in (
      simp length-set (omega arith),
      rw (c.colour.ensures _ alpha c.requires.known, unread, c.loop-c.invariant.1, add-one),
    )
