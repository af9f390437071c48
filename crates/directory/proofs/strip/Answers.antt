-- `directory::strip` meets its contract: the part that strip_place says. Assumes nothing.
use Prim.Native.Nat.{◌+◌, ◌≤◌}
use Rattle.directory.proofs.Calls.{inside}
use lib.ListN.{length}
use native.Mathlib.Omega.{arith}
use Rattle.directory.proofs.strip.Goals.{In-Ok}
use Rattle.directory.proofs.strip.Goals as goal

within : (c : In-Ok) → c.in-Ok.at.0 + c.in-Ok.bytes ≤ length c.args.file.now
within c =
    let args = c.args in
    inside args.file.now args.page args.k c.strip_place.result c.strip_place.ensures _ _ c.in-Ok.is

pub overflow_add-to : goal.overflow_add-to
overflow_add-to c =
    omega (arith, within (goal.at.overflow_add-to c).In-Ok)

pub slice_bounds-result-end : goal.slice_bounds-result-end
slice_bounds-result-end c =
    omega (arith, within (goal.at.slice_bounds-result-end c).In-Ok)
