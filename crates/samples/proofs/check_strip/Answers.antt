-- `samples::check_strip` meets its promise: the tests are rule 3.6's faults, in its order. Assumes nothing.
use mathlib.Core.Path.{◌≡◌, ◌∙◌, sym}
use mathlib.Core.Bool.{true}
use native.Mathlib.Nat.{mul-le-mul, mul-pos, lt_of_le_of_lt}
use native.Mathlib.Omega.{arith}
use lib.Dec.{lit<}
use Rattle.words.specs.Promises.{served}
use Rattle.words.proofs.Served.{served-some}
use Rattle.samples.proofs.check_strip.Goals.{Else-not-width_served}
use Rattle.samples.proofs.check_strip.Goals as goal

allowed : (c : Else-not-width_served) → served c.args.strip.width ≡ true
allowed c =
    sym c.width_served.ensures ∙ c.if-not-width_served.false

pub overflow_mul-strip : goal.overflow_mul-strip
overflow_mul-strip c =
    record { fits = lt_of_le_of_lt (mul-le-mul c.if-strip-gt64.false (served-some _ (allowed (goal.at.overflow_mul-strip c).Else-not-width_served)).1) (lit< tt) }

pub nonzero_rem-strip : goal.nonzero_rem-strip
nonzero_rem-strip c =
    mul-pos (omega arith) (served-some _ (allowed (goal.at.nonzero_rem-strip c).Else-not-width_served)).0
