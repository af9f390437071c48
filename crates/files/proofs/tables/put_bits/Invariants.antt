-- `files::tables::put_bits` meets its contract: a number a turn, each the bits of a sample. Assumes nothing.
use Prim.Native.Nat.{◌*◌}
use mathlib.Core.Path.{◌≡◌}
use Rattle.layout.specs.declared.Fields.{Fields}
use Rattle.files.specs.File.{bits_of, front}
use Rattle.files.specs.Parts.{Planned, Wrote}
use Rattle.files.proofs.tables.put_bits.Given as goal

abbrev pub invariant-loop-j : goal.invariant-loop-j
invariant-loop-j l = (f : Fields) → l.depth ≡ bits_of f → Planned f l.p l.initial.out → Wrote (front f l.p.each) l.p.bits (2 * l.j) l.initial.out l.out
