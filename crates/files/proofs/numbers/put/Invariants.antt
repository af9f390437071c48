-- `files::numbers::put` meets its contract: the digits so far are stored, and what is left of the number is its digits after them. Assumes nothing.
use mathlib.Core.Path.{◌≡◌}
use Prim.Native.Nat.{◌/◌, ◌^◌}
use Rattle.answer.specs.Table.{stores}
use Rattle.words.specs.Digits.{digit}
use Rattle.files.proofs.numbers.put.Given as goal

abbrev pub invariant-loop-p : goal.invariant-loop-p
invariant-loop-p g l = (l.rest ≡ l.v / 256 ^ l.p) × (l.out ≡ stores l.initial.out l.at l.p (λ j. digit 256 j l.v))
