-- `packets::feed::feed` meets its contract: the word stays unfinished, or it is finished and the rest comes. Assumes nothing.
use native.Mathlib.Omega.{arith}
use Prim.Native.Nat.{◌≤◌}
use lib.ListN.{length}
use Rattle.packets.proofs.Wordstart.{served-width}
use Rattle.packets.proofs.Finish.{fill_inside, hold_fits, short-fed, done-room, finishes, rest_from, all-fed}
use Rattle.packets.proofs.feed.feed.Goals.{After-finish}
use Rattle.packets.proofs.feed.feed.Goals as goal

enough : (c : After-finish) → c.missing-head.result ≤ length c.args.bytes.now
enough c =
    omega arith

pub past-fill-requires : goal.past-fill-requires
past-fill-requires c =
    served-width c.requires

pub missing-head-requires : goal.missing-head-requires
missing-head-requires c =
    omega (arith, fill_inside c.requires c.past-fill.result c.past-fill.ensures)

pub hold-requires : goal.hold-requires
hold-requires c =
    hold_fits c.requires c.past-fill.result c.past-fill.ensures c.missing-head.result c.missing-head.ensures (omega arith)

pub returns-then-bytes-head : goal.returns-then-bytes-head
returns-then-bytes-head c =
    short-fed c.requires c.past-fill.result c.past-fill.ensures c.missing-head.result c.missing-head.ensures (omega arith) c.hold.ensures

pub slice_bounds-finish-end-2 : goal.slice_bounds-finish-end-2
slice_bounds-finish-end-2 c =
    done-room c.requires c.past-fill.result c.past-fill.ensures c.missing-head.result c.missing-head.ensures (omega arith)

pub finish-requires : goal.finish-requires
finish-requires c =
    finishes c.requires c.past-fill.result c.past-fill.ensures c.missing-head.result c.missing-head.ensures (omega arith)

pub from_word-requires : goal.from_word-requires
from_word-requires c =
    rest_from c.requires c.past-fill.result c.past-fill.ensures c.missing-head.result c.missing-head.ensures (enough (goal.at.from_word-requires c).After-finish) c.finish.ensures

pub returns : goal.returns
returns c =
    all-fed c.requires c.past-fill.result c.past-fill.ensures c.missing-head.result c.missing-head.ensures (enough (goal.at.returns c).After-finish) c.finish.ensures c.from_word.ensures
