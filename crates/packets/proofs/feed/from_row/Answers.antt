-- `packets::feed::from_row` meets its contract: whole rows, and the words of the next. Assumes nothing.
use native.Mathlib.Omega.{arith}
use Prim.Native.Nat.{◌≤◌}
use lib.ListN.{length}
use Rattle.packets.proofs.Wordwise.{is, words-room}
use Rattle.packets.proofs.Joins.{both_words-fed}
use Rattle.packets.proofs.Rowwise.{whole, whole-inside, whole_words, rows-first, rest_of_rows}
use Rattle.packets.proofs.feed.from_row.Goals as goal

pub nonzero_rem-rows : goal.nonzero_rem-rows
nonzero_rem-rows c =
    (is c.requires.predicted.feed).good.long

pub slice_bounds-convert-end-2 : goal.slice_bounds-convert-end-2
slice_bounds-convert-end-2 c =
    let room : whole c.requires ≤ length c.args.out.now = omega (arith, words-room c.requires.predicted.feed, whole-inside c.requires) in
    room

pub in_row-requires : goal.in_row-requires
in_row-requires c =
    rest_of_rows c.requires c.convert.result c.convert.ensures

pub returns : goal.returns
returns c =
    let rows = c.requires in
    both_words-fed rows.predicted.feed (whole rows) (whole-inside rows) (whole_words rows) (rows-first rows c.convert.result c.convert.ensures) c.in_row.ensures
