-- `damage::fill::mark_from` meets its contract: the two parts filled are the whole. Assumes nothing.
use borrow.Author.Rules.{rules}
use Rattle.damage.proofs.Begins.{filled-since}
use Rattle.damage.proofs.fill.mark_from.Goals as goal

pub returns : goal.returns
returns c =
    record { marks = filled-since _ _ _ _ c.requires c.fill.ensures c.fill-2.ensures; count-is = search rules }
