-- `packbits::moving::copy_bytes` meets its contract: blocks whose front the bytes are, or they alone. Assumes nothing.
use borrow.Author.Tests.{leb-true}
use native.Mathlib.Omega.{arith}
use Prim.Native.Nat.{ℕ, ◌+◌, ◌-◌, ◌*◌, ◌/◌}
use lib.Dec.{leb}
use lib.ListN.{length}
use Rattle.packbits.specs.Parts.{CopyFits}
use Rattle.laws.proofs.Says.{and_left, and_right}
use Rattle.packbits.proofs.Placing.{literal-placed}
use Rattle.packbits.proofs.moving.copy_bytes.Goals as goal

pub returns-then-blocks-source : goal.returns-then-blocks-source
returns-then-blocks-source c =
    let blocks : ℕ = (c.args.n + 31) / 32 * 32 in
    let room : let args = c.args in CopyFits args.source.now args.begin blocks args.out.now args.to = let args = c.args in
    let there = length args.source.now - args.begin in
    let free = length args.out.now - args.to in
    let read = leb-true blocks there (and_left (leb blocks there) (leb blocks free) c.if-blocks-source.true) in
    let put = leb-true blocks free (and_right (leb blocks there) (leb blocks free) c.if-blocks-source.true) in
    (omega (arith, c.requires), omega (arith, c.requires)) in
    let args = c.args in
    literal-placed args.source.now args.out.now args.begin args.n blocks args.to (omega arith) room c.copy.ensures
