-- `rendering::gather::gather` meets its contract: the row's laws are in proofs/Rowwise.antt. Assumes nothing.
use native.Mathlib.Omega.{arith}
use Prim.Native.Nat.{◌+◌, ◌*◌, ◌≤◌}
use lib.ListN.{length}
use mathlib.Core.Path.{◌≡◌}
use Rattle.pixels.proofs.HighFirst.{one_or_two, one_byte}
use borrow.Author.Tests.{not-true, not-false}
use Rattle.layout.specs.Layout.{byte_limit}
use Rattle.pixels.specs.Render.{plane_row}
use Rattle.words.specs.Word.{Bytes}
use Rattle.rendering.proofs.Rowwise.{plane_row_end, plane_limited, planes-fit, planes_gathered, part_inside, together_gathered}
use Rattle.rendering.proofs.gather.gather.Goals.{Then-not-l, Else-l-eq2, Start}
use Rattle.rendering.proofs.gather.gather.Goals as goal

-- the row's first byte is one of the planes
small : (c : Start) → let l = c.args.l in c.args.y * plane_row l + plane_row l ≤ byte_limit
small c =
    omega (arith, plane_row_end c.requires, plane_limited c.requires)

inside : (c : Then-not-l) → c.args.y * plane_row c.args.l + length c.args.out.now ≤ length c.args.raw.now
inside c =
    part_inside c.requires (not-true _ c.if-not-l.true)

pub overflow_mul-from : goal.overflow_mul-from
overflow_mul-from c =
    record { fits = omega (arith, small (goal.at.overflow_mul-from c).Start) }

pub overflow_mul-from-2 : goal.overflow_mul-from-2
overflow_mul-from-2 c =
    record { fits = omega (arith, small (goal.at.overflow_mul-from-2 c).Start) }

pub overflow_add-end : goal.overflow_add-end
overflow_add-end c =
    omega (arith, inside (goal.at.overflow_add-end c).Then-not-l, c.well_formed)

pub slice_bounds-reorder-end : goal.slice_bounds-reorder-end
slice_bounds-reorder-end c =
    inside (goal.at.slice_bounds-reorder-end c).Then-not-l

-- a width of one byte
narrow : (c : Else-l-eq2) → c.args.l.fields.bytes ≡ 1
narrow c =
    one_byte (one_or_two c.args.l c.requires.sound c.requires.bytes) c.if-l-eq2.false

pub planes-requires : goal.planes-requires
planes-requires c =
    rw c.if-l-eq2.true at (planes-fit c.requires (not-false _ c.if-not-l.false))

pub planes-requires-else-l-eq2 : goal.planes-requires-else-l-eq2
planes-requires-else-l-eq2 c =
    rw (narrow (goal.at.planes-requires-else-l-eq2 c).Else-l-eq2) at (planes-fit c.requires (not-false _ c.if-not-l.false))

pub returns-then-not-l : goal.returns-then-not-l
returns-then-not-l c =
    let bytes : Bytes c.args.raw.now = λ i. omega (arith, c.type_inv.raw i) in
    together_gathered c.requires (not-true _ c.if-not-l.true) c.reorder.result _ bytes c.reorder.ensures

pub returns-then-l-eq2 : goal.returns-then-l-eq2
returns-then-l-eq2 c =
    planes_gathered c.requires (not-false _ c.if-not-l.false) _ (rw c.if-l-eq2.true c.planes.ensures)

pub returns-else-l-eq2 : goal.returns-else-l-eq2
returns-else-l-eq2 c =
    planes_gathered c.requires (not-false _ c.if-not-l.false) _ (rw (narrow (goal.at.returns-else-l-eq2 c).Else-l-eq2) c.planes-else-l-eq2.ensures)
