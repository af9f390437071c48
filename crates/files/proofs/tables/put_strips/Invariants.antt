-- `files::tables::put_strips` meets its contract: a number a turn, the strip's place or its length. Assumes nothing.
use Rattle.layout.specs.declared.Fields.{Fields}
use Rattle.files.specs.Parts.{Planned}
use Rattle.files.proofs.Stripping.{Stripped}
use Rattle.files.proofs.tables.put_strips.Given as goal

abbrev pub invariant-loop-k : goal.invariant-loop-k
invariant-loop-k l = (f : Fields) → Planned f l.p l.initial.out → Stripped f l.p l.at l.k l.place l.left l.initial.out l.out
