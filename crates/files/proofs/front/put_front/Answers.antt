-- `files::front::put_front` meets its contract: the directory, and the values outside it, one list behind the other. Assumes nothing.
use native.Mathlib.Omega.{arith}
use mathlib.Core.Path.{refl}
use Rattle.files.proofs.Holding.{wrote_on}
use Rattle.files.proofs.Writing.{laid, wrote-same}
use Rattle.files.proofs.front.put_front.Goals as goal

pub returns : goal.returns
returns c =
    let planned = c.requires in
    let k = laid planned in
    wrote-same refl (omega arith) (wrote_on (wrote_on (wrote_on (wrote_on c.put_directory.ensures (omega arith) c.put_bits.ensures) (omega arith) c.put_strips.ensures) (omega arith) c.put_strips-2.ensures) (omega arith) c.put_resolutions.ensures)
