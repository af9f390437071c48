-- `packets::feed::in_row` meets its contract: the words go through `resume_row`, and at the row's end the sums begin anew. Assumes nothing.
use native.Mathlib.Omega.{arith}
use Prim.Native.Nat.{◌/◌, ◌%◌}
use Rattle.rows.specs.Resume.{RowResumed}
use Rattle.packets.proofs.Wordwise.{is, width_served}
use Rattle.packets.proofs.Inrow.{row_open, row_over}
use Rattle.packets.proofs.feed.in_row.Goals.{After-resume_row}
use Rattle.packets.proofs.feed.in_row.Goals as goal

-- the words from their channel on
resumed : (c : After-resume_row) → let args = c.args in RowResumed args.raw.now (args.received % args.plan.row_bytes / args.plan.width % args.plan.channels) args.plan.channels args.plan.width args.plan.le args.plan.out_le args.sums.now args.out.now c.resume_row.result c.resume_row.new.sums c.resume_row.new.out
resumed c =
    rw (c.whole.ensures, c.requires.there) at c.resume_row.ensures

pub whole-requires : goal.whole-requires
whole-requires c =
    width_served c.requires.predicted.feed

pub nonzero_rem-first : goal.nonzero_rem-first
nonzero_rem-first c =
    (is c.requires.predicted.feed).good.channel

pub returns-then-place-raw : goal.returns-then-place-raw
returns-then-place-raw c =
    row_over c.requires c.resume_row.result (resumed (goal.at.returns-then-place-raw c).After-resume_row) (omega (arith, c.requires.there)) c.clear.ensures

pub returns-else-place-raw : goal.returns-else-place-raw
returns-else-place-raw c =
    row_open c.requires c.resume_row.result (resumed (goal.at.returns-else-place-raw c).After-resume_row) (λ over. omega (arith, c.requires.there))
