-- `files::tables::put_bits` meets its contract: a number a turn, each the bits of a sample. Assumes nothing.
use Prim.Native.Nat.{◌*◌}
use native.Mathlib.Omega.{arith}
use Rattle.files.specs.File.{front}
use Rattle.files.specs.Parts.{Wrote}
use Rattle.files.proofs.Holding.{holds_at}
use Rattle.files.proofs.Places.{holds_bit}
use Rattle.files.proofs.Writing.{laid, length-wrote, number-wrote}
use Rattle.files.proofs.tables.put_bits.Goals as goal

pub overflow_mul-j : goal.overflow_mul-j
overflow_mul-j c =
    omega (arith, laid c.requires.1, c.loop-j-test.true)

pub overflow_add-p : goal.overflow_add-p
overflow_add-p c =
    omega (arith, laid c.requires.1, c.loop-j-test.true)

pub put_short-requires : goal.put_short-requires
put_short-requires c =
    let so_far : let args = c.args in Wrote (front args.f args.p.each) args.p.bits (2 * c.loop-j.j) args.out.now c.loop-j.out = c.loop-j.invariant c.args.f c.requires.0 c.requires.1 in
    let planned = c.requires.1 in omega (arith, laid planned, planned.room, c.loop-j-test.true, length-wrote so_far)

pub loop-j-preserved : goal.loop-j-preserved
loop-j-preserved c = λ f d h.
    let p = c.args.p in
    let j = c.loop-j.j in
    let k = laid h in
    number-wrote 2 j (c.loop-j.invariant f d h) (holds_at (omega arith) (holds_bit f p.each j (omega (arith, c.loop-j-test.true)))) d c.put_short.ensures
