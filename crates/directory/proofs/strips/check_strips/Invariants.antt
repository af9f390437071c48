-- `directory::strips::check_strips` meets its contract: the first strip that has a fault decides. Assumes nothing.
use Prim.Native.Nat.{◌%◌}
use Rattle.answer.specs.Outcome.{Sound}
use Rattle.directory.specs.Page.{strip_faults}
use Rattle.laws.specs.Turns.{faults_below}
use Rattle.tags.specs.Tags.{strips_per_plane}
use mathlib.Core.Path.{◌≡◌}
use Rattle.directory.proofs.strips.check_strips.Given as goal

abbrev pub invariant-loop-k : goal.invariant-loop-k
invariant-loop-k l = (l.turn ≡ l.k % strips_per_plane l.s.rows l.s.each) × Sound (faults_below l.k (strip_faults l.file l.s))
