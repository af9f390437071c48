-- `files::tables::put_strips` meets its contract: a number a turn, the strip's place or its length. Assumes nothing.
use Prim.Native.Nat.{◌+◌, ◌*◌, ◌≤◌}
use native.Mathlib.Omega.{arith}
use Rattle.files.specs.File.{strips}
use Rattle.files.proofs.Sizes.{strip-limit, strip_small, file_small, outside-within}
use Rattle.files.specs.Parts.{is_places}
use Rattle.files.proofs.Stripping.{Stripped, stripped_none, inside, bytes_are, stripped_on}
use Rattle.files.proofs.Writing.{laid, length-wrote}
use Rattle.files.proofs.tables.put_strips.Goals.{At-loop-k}
use Rattle.files.proofs.tables.put_strips.Goals as goal

-- the table's end
within : (c : At-loop-k) → let p = c.args.p in c.begin-at.result + 4 * p.strips_outside ≤ p.resolutions
within c =
    inside c.requires (is_places c.args.table) c.begin-at.ensures

-- what is written so far
so_far : (c : At-loop-k) → let args = c.args in Stripped args.f args.p c.begin-at.result c.loop-k.k c.loop-k.place c.loop-k.left args.out.now c.loop-k.out
so_far c =
    c.loop-k.invariant c.args.f c.requires

pub loop-k-init : goal.loop-k-init
loop-k-init c =
    λ f h. stripped_none h _

pub strip_bytes-bytes-requires : goal.strip_bytes-bytes-requires
strip_bytes-bytes-requires c =
    rw (laid c.requires).row (strip-limit c.args.f c.args.p.each c.requires.fit)

pub overflow_mul-k : goal.overflow_mul-k
overflow_mul-k c =
    omega (arith, laid c.requires, c.loop-k-test.true)

pub overflow_add-at : goal.overflow_add-at
overflow_add-at c =
    omega (arith, laid c.requires, within (goal.at.overflow_add-at c).At-loop-k, c.loop-k-test.true)

pub put_long-requires : goal.put_long-requires
put_long-requires c =
    let planned = c.requires in
    omega (arith, laid planned, within (goal.at.put_long-requires c).At-loop-k, planned.room, c.loop-k-test.true, length-wrote (so_far (goal.at.put_long-requires c).At-loop-k).wrote)

pub overflow_add-place : goal.overflow_add-place
overflow_add-place c =
    let f = c.args.f in
    let each = c.args.p.each in
    let k = c.loop-k.k in
    omega (arith, (so_far (goal.at.overflow_add-place c).At-loop-k).stands, bytes_are c.requires (so_far (goal.at.overflow_add-place c).At-loop-k) c.strip_bytes-bytes.ensures, strip_small f each c.requires.fit k (omega (arith, c.loop-k-test.true, outside-within 4 (strips f each), (laid c.requires).strips-outside)), file_small f each c.requires.fit)

pub loop-k-preserved : goal.loop-k-preserved
loop-k-preserved c = λ f h.
    stripped_on h (c.loop-k.invariant f h) (is_places c.args.table) c.begin-at.ensures c.loop-k-test.true c.strip_bytes-bytes.ensures c.number.ensures c.put_long.ensures c.left_after-left.ensures
