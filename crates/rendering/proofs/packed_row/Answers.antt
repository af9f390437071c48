-- `rendering::packed_row` meets its contract: the laws are in proofs/PackedRows.antt. Assumes nothing.
use native.Mathlib.Omega.{arith}
use Prim.Native.Nat.{◌+◌, ◌*◌, ◌≤◌}
use mathlib.Core.Logic.{⊎_elim}
use lib.ListN.{length}
use Rattle.layout.specs.Layout.{byte_limit}
use Rattle.laws.proofs.Says.{clash, up, equal, either}
use Rattle.rendering.proofs.PackedRows.{packed_row_end, packed-limited, palette_rendered, bilevel_rendered}
use Rattle.rendering.proofs.packed_row.Goals.{Start}
use Rattle.rendering.proofs.packed_row.Goals as goal

-- it lies in the planes
inside : (c : Start) → let end = c.args.y * c.args.l.encoded_width + c.args.l.encoded_width in (end ≤ length c.args.raw.now) × (end ≤ byte_limit)
inside c =
    let pre = c.requires in
    (omega (arith, packed_row_end pre.0 pre.1, pre.0.planes), omega (arith, packed_row_end pre.0 pre.1, packed-limited pre.0 pre.1))

pub overflow_mul-from : goal.overflow_mul-from
overflow_mul-from c =
    record { fits = omega (arith, inside (goal.at.overflow_mul-from c).Start) }

pub overflow_add-end : goal.overflow_add-end
overflow_add-end c =
    omega (arith, inside (goal.at.overflow_add-end c).Start)

pub slice_bounds-row-end : goal.slice_bounds-row-end
slice_bounds-row-end c =
    omega (arith, inside (goal.at.slice_bounds-row-end c).Start)

pub returns-then-l : goal.returns-then-l
returns-then-l c =
    let pre = c.requires in palette_rendered pre.0 pre.1 c.if-l.true c.palette_row.result _ c.palette_row.ensures

pub returns-else-l : goal.returns-else-l
returns-else-l c =
    let l = c.args.l in
    let eight = ⊎_elim (λ t. clash t c.if-l.false) (λ q. q) ((either (up l.fields.palette) (equal l.fields.slots 8)).tells c.requires.1) in
    bilevel_rendered c.requires.0 c.requires.1 c.if-l.false eight c.bilevel_row.result _ c.bilevel_row.ensures
