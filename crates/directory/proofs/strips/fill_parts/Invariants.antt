-- `directory::strips::fill_parts` meets its contract: two numbers a turn. Assumes nothing.
use Prim.Native.Nat.{◌*◌}
use Rattle.directory.specs.Page.{part_number}
use Rattle.laws.proofs.Lists.{FilledTo}
use Rattle.directory.proofs.strips.fill_parts.Given as goal

abbrev pub invariant-loop-k : goal.invariant-loop-k
invariant-loop-k l = FilledTo (part_number l.file l.s) l.initial.parts (2 * l.k) l.parts
