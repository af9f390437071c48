-- `files::front::bits_last` meets its contract: one sample or two stand in the entry, more outside. Assumes nothing.
use native.Mathlib.Omega.{arith}
use borrow.Author.Tests.{lt-ltb, le-ltb, eq-eqb, ne_eqb}
use lib.Dec.{eqb, ltb}
use Rattle.std.proofs.Common.{◌≡◌, ◌+◌, ◌*◌}
use Rattle.answer.specs.Outcome.{pick}
use Prim.Native.Nat.{◌≤◌}
use Rattle.layout.proofs.Accepted.{up_to_eight}
use Rattle.files.specs.File.{bits_of, bits_last}
use Rattle.files.proofs.Inside.{two_inside, few_bits}
use Rattle.files.proofs.Sizes.{fields_accepted}
use Rattle.files.proofs.Writing.{laid_by}
use Rattle.files.proofs.front.bits_last.Goals.{After-depth_of-depth}
use Rattle.files.proofs.front.bits_last.Goals as goal

-- a sample of so many bytes has few bits
few : (c : After-depth_of-depth) → c.depth_of-depth.result ≤ 64
few c =
    rw c.depth_of-depth.ensures (few_bits c.args.f (up_to_eight (fields_accepted _ _ c.requires.0).bytes).1)

pub overflow_mul-result : goal.overflow_mul-result
unfolding bits_last
overflow_mul-result c =
    omega (arith, few (goal.at.overflow_mul-result c).After-depth_of-depth)

pub overflow_add-result : goal.overflow_add-result
unfolding bits_last
overflow_add-result c =
    omega (arith, few (goal.at.overflow_add-result c).After-depth_of-depth)

-- what the entry has, by the channels
said : (c : After-depth_of-depth) → pick (ltb 2 c.args.f.ch) c.args.p.bits (pick (eqb c.args.f.ch 2) (c.depth_of-depth.result + 65536 * c.depth_of-depth.result) c.depth_of-depth.result) ≡ bits_last c.args.f
unfolding bits_last
said c =
    rw (c.depth_of-depth.ensures, (laid_by c.requires.0 c.requires.1).bits) (two_inside c.args.f.ch (bits_of c.args.f) _ (fields_accepted _ _ c.requires.0).some)

pub returns-then-f-gt2 : goal.returns-then-f-gt2
returns-then-f-gt2 c =
    rw (lt-ltb 2 c.args.f.ch c.if-f-gt2.true) at (said (goal.at.returns-then-f-gt2 c).After-depth_of-depth)

pub returns-then-f-eq2 : goal.returns-then-f-eq2
returns-then-f-eq2 c =
    rw (le-ltb 2 c.args.f.ch (omega (arith, c.if-f-gt2.false)), eq-eqb c.args.f.ch 2 c.if-f-eq2.true) at (said (goal.at.returns-then-f-eq2 c).After-depth_of-depth)

pub returns-else-f-eq2 : goal.returns-else-f-eq2
returns-else-f-eq2 c =
    rw (le-ltb 2 c.args.f.ch (omega (arith, c.if-f-gt2.false)), ne_eqb c.args.f.ch 2 c.if-f-eq2.false) at (said (goal.at.returns-else-f-eq2 c).After-depth_of-depth)
