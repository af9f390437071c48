-- `packets::feed::past` meets its contract: a width that is not 3 is a power of two. Assumes nothing.
use native.Mathlib.Omega.{arith}
use Rattle.words.proofs.Served.{served-some, past_bits}
use Rattle.packets.proofs.feed.past.Goals as goal

pub overflow_sub-result : goal.overflow_sub-result
overflow_sub-result c =
    omega (arith, served-some _ c.requires)

pub returns-else-width-eq3 : goal.returns-else-width-eq3
returns-else-width-eq3 c =
    past_bits _ _ c.requires c.if-width-eq3.false
