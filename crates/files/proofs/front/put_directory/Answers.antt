-- `files::front::put_directory` meets its contract: its five parts, one behind the other. Assumes nothing.
use native.Mathlib.Omega.{arith}
use mathlib.Core.Path.{◌≡◌, refl}
use Prim.Native.Nat.{◌+◌, ◌-◌}
use Rattle.files.proofs.Holding.{wrote_on}
use Rattle.files.proofs.Writing.{laid}
use Rattle.files.proofs.front.put_directory.Goals as goal

pub returns : goal.returns
returns c =
    let p = c.args.p in
    let k = laid c.requires in
    let size : 178 + (p.bits - 178) ≡ p.bits = omega arith in
    rw size at (wrote_on (wrote_on (wrote_on (wrote_on c.put_header.ensures refl c.put_shape.ensures) refl c.put_split.ensures) refl c.put_rest.ensures) refl c.put_end.ensures)
