-- `pixels::straighten` meets its contract: a colour times a share, held at 255 before it is rounded. Assumes nothing.
use borrow.Author.Rules.{rules}
use mathlib.Core.Path.{refl, ◌∙◌}
use Rattle.pixels.proofs.Straight.{straight_held}
use Rattle.pixels.proofs.straighten.Goals as goal

pub returns : goal.returns
returns c a alpha e =
    let args = c.args in c.rounded.ensures ∙ straight_held args.u a args.share _ (search rules) alpha e refl
