-- `pixels::straighten_whole` meets its contract: the table of shares is right, by one computed test of all of it. Assumes nothing.
use mathlib.Core.Path.{refl}
use Rattle.laws.proofs.Tabled.{tabled}
use Rattle.pixels.specs.Finish.{share_of}
use Rattle.pixels.proofs.straighten_whole.Goals as goal

pub straighten_known-requires : goal.straighten_known-requires
unfolding share_of
straighten_known-requires c =
    (c.requires, tabled refl)
