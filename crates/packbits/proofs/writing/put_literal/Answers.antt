-- `packbits::writing::put_literal` meets its contract: the length less one, and the bytes behind it. Assumes nothing.
use native.Mathlib.Omega.{arith}
use Prim.Native.Nat.{◌-◌}
use lib.ListN.{drop, length-drop, length-set}
use Rattle.packbits.specs.Parts.{Literal}
use Rattle.packbits.proofs.Planning.{Kept, kept-is}
use Rattle.packbits.proofs.Putting.{literal_put}
use Rattle.packbits.proofs.writing.put_literal.Goals.{Start}
use Rattle.packbits.proofs.writing.put_literal.Goals as goal

fit : (c : Start) → let args = c.args in Kept (drop args.at args.row.now) (Literal args.n)
fit c =
    kept-is _ _ c.requires.keeps_rules

pub overflow_sub-out : goal.overflow_sub-out
overflow_sub-out c =
    omega (arith, fit (goal.at.overflow_sub-out c).Start)

pub overflow_cast-out : goal.overflow_cast-out
overflow_cast-out c =
    omega (arith, fit (goal.at.overflow_cast-out c).Start)

pub copy_bytes-requires : goal.copy_bytes-requires
copy_bytes-requires c =
    let args = c.args in (
      (fit (goal.at.copy_bytes-requires c).Start).few,
      (omega (arith, fit (goal.at.copy_bytes-requires c).Start, c.requires.inside, length-drop args.at args.row.now), rw (length-set args.out.now args.to (args.n - 1)) (omega (arith, c.requires.room))),
    )

pub returns : goal.returns
returns c =
    let args = c.args in literal_put args.row.now args.out.now args.at args.to args.n c.requires c.copy_bytes.ensures
