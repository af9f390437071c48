-- `packets::feed::across` meets its contract: the begun row, and from the next on. Assumes nothing.
use native.Mathlib.Omega.{arith}
use native.Mathlib.Nat.{mod-lt}
use Prim.Native.Nat.{◌%◌, ◌≤◌, ◌<◌}
use lib.ListN.{length}
use Rattle.packets.proofs.Wordwise.{is, words-room}
use Rattle.packets.proofs.Joins.{both_words-fed}
use Rattle.packets.proofs.Rowwise.{left, left-words, row_end, next-rows}
use Rattle.packets.proofs.feed.across.Goals as goal

pub nonzero_rem-place : goal.nonzero_rem-place
nonzero_rem-place c =
    (is c.requires.predicted.feed).good.long

pub overflow_sub-left : goal.overflow_sub-left
overflow_sub-left c =
    let less : c.args.received % c.args.plan.row_bytes < c.args.plan.row_bytes = mod-lt c.args.received (is c.requires.predicted.feed).good.long in
    omega (arith, less)

pub slice_bounds-in_row-end-2 : goal.slice_bounds-in_row-end-2
slice_bounds-in_row-end-2 c =
    let room : left c.requires.predicted ≤ length c.args.out.now = omega (arith, c.requires.enough, words-room c.requires.predicted.feed) in
    room

pub in_row-requires : goal.in_row-requires
in_row-requires c =
    row_end c.requires.predicted c.requires.enough

pub from_row-requires-2 : goal.from_row-requires-2
from_row-requires-2 c =
    next-rows c.requires.predicted c.requires.enough c.in_row.ensures

pub returns : goal.returns
returns c =
    let begun = c.requires in
    both_words-fed begun.predicted.feed (left begun.predicted) begun.enough (left-words begun.predicted) c.in_row.ensures c.from_row-2.ensures
