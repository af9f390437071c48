-- `packet_numbers::sums_of` meets its contract: the sums are the numbers from 8 on. Assumes nothing.
use mathlib.Core.Path.{◌∙◌}
use Rattle.packet_numbers.proofs.Standing.{sums_part}
use Rattle.packet_numbers.proofs.sums_of.Goals as goal

pub returns : goal.returns
returns c =
    c.copy_from_slice.ensures.after ∙ sums_part c.args.s.now c.requires
