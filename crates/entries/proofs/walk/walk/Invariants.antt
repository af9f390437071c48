-- `entries::walk::walk` meets its contract: each directory on the way is looked at. Assumes nothing.
use Rattle.answer.specs.Outcome.{Sound}
use Rattle.entries.specs.Entries.{on_the_way, place}
use Rattle.laws.specs.Turns.{faults_below}
use mathlib.Core.Path.{◌≡◌}
use Rattle.entries.proofs.walk.walk.Given as goal

abbrev pub invariant-loop-p : goal.invariant-loop-p
invariant-loop-p l = (l.at ≡ place l.file l.le l._p) × Sound (faults_below l._p (on_the_way l.file l.le))
