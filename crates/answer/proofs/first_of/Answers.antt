-- `answer::first_of` meets its contract: the first answer's refusal, or the later answer. Assumes nothing.
use Rattle.std.specs.Prelude.{Ok, Err}
use Rattle.std.specs.Result.{result_and}
use mathlib.Core.Path.{refl}
use Rattle.answer.specs.Outcome.{Done, InOrder}
use Rattle.answer.proofs.Promised.{step-refused, step-on}
use Rattle.answer.proofs.first_of.Goals as goal

in_order : (one later : Done) → InOrder one later (result_and one later)
in_order (Ok tt) later fs gs p q = step-on p refl q
in_order (Err k) later fs gs p q = step-refused gs p refl

pub returns : goal.returns
returns c = rw c.and.ensures (in_order c.args.one c.args.later)
