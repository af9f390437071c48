-- `packbits::reading::fill_row` meets its contract: each packet goes where the one before it ended. Assumes nothing.
use Rattle.std.proofs.Common.{◌≡◌, ◌+◌, ◌≤◌, length, ap, ◌∙◌, sym, arith}
use Rattle.packbits.specs.Parts.{header_fills, header_takes, Placed}
use Rattle.packbits.proofs.Onward.{placed-none}
use Rattle.packbits.proofs.Packets.{packet_fits, ends, few, takes_more, filling_on, header_bytes}
use Rattle.packbits.proofs.reading.fill_row.Goals.{After-from-header, Joined-header, in-Copies, in-Rests, in-Repeats}
use Rattle.packbits.proofs.reading.fill_row.Goals as goal

-- where the packet ends, and how little of the row it fills
ended : (c : After-from-header) → let h = c.from-header.result in (c.loop-from.at + header_takes h ≤ length c.args.packed.now) × (c.loop-from.from + header_fills h ≤ length c.loop-from.row)
ended c = ends c.loop-from.invariant c.loop-from-test.true c.from-header.ensures

pub bounds-packed-at : goal.bounds-packed-at
bounds-packed-at c =
    omega (arith, packet_fits c.loop-from.invariant c.loop-from-test.true)

pub copy_bytes-requires : goal.copy_bytes-requires
copy_bytes-requires c =
    let end = rw c.in-Copies.is at (ended (goal.at.copy_bytes-requires c).After-from-header) in
    (rw c.in-Copies.is at (few c.loop-from.invariant c.loop-from-test.true c.from-header.ensures), (omega (arith, end.0), end.1))

pub bounds-packed-at-in-Repeats : goal.bounds-packed-at-in-Repeats
bounds-packed-at-in-Repeats c =
    omega (arith, rw c.in-Repeats.is at (ended (goal.at.bounds-packed-at-in-Repeats c).After-from-header))

pub repeat_byte-requires : goal.repeat_byte-requires
repeat_byte-requires c =
    (rw c.in-Repeats.is at (ended (goal.at.repeat_byte-requires c).After-from-header)).1

-- the header is as it was, and what it says of the row was put there
same : (c : Joined-header) → c.match-header.header ≡ c.from-header.result
same c =
    elim c.match-header.branch [ in-Copies w ↦ w.header-is ∙ sym w.in-Copies.is | in-Rests w ↦ w.header-is | in-Repeats w ↦ w.header-is ∙ sym w.in-Repeats.is ]

placed : (c : Joined-header) → Placed c.loop-from.from (header_bytes c.args.packed.now c.loop-from.at 0 c.from-header.result) c.loop-from.row c.match-header.row
placed c =
    elim c.match-header.branch [
      | in-Copies w ↦ rw (w.in-Copies.is, w.row-is) w.copy_bytes.ensures
      | in-Rests w ↦ rw (w.in-Rests.is, w.row-is) (placed-none _ _)
      | in-Repeats w ↦ rw (w.in-Repeats.is, w.row-is) w.repeat_byte.ensures
    ]

pub loop-from-smaller : goal.loop-from-smaller
loop-from-smaller c =
    let to = goal.at.loop-from-smaller c in
    let takes : c.takes-at.result ≡ header_takes c.from-header.result = c.takes-at.ensures ∙ ap header_takes (same to.Joined-header) in
    omega (arith, ended to.After-from-header, takes, takes_more c.loop-from.invariant c.loop-from-test.true c.from-header.ensures)

pub loop-from-preserved : goal.loop-from-preserved
loop-from-preserved c =
    let to = goal.at.loop-from-preserved c in
    rw (c.takes-at.ensures, c.fills-from.ensures, same to.Joined-header) (filling_on c.loop-from.invariant c.loop-from-test.true c.from-header.ensures (placed to.Joined-header))
