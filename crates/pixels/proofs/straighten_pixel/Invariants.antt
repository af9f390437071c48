-- `pixels::straighten_pixel` meets its contract: the colours before the alpha byte, one store each. Assumes nothing.
use Prim.Native.Nat.{◌+◌}
use mathlib.Core.Path.{◌≡◌}
use lib.ListN.{length, get_or}
use Rattle.answer.specs.Table.{stores}
use Rattle.pixels.specs.Render.{straight_colour}
use Rattle.pixels.proofs.straighten_pixel.Given as goal

abbrev pub invariant-loop-c : goal.invariant-loop-c
invariant-loop-c l = (length l.s ≡ length l.initial.s) × (l.s ≡ stores l.initial.s l.at l.c (λ j. straight_colour l.multiplied l.white (get_or l.initial.s (l.at + j) 0) (get_or l.initial.s (l.at + l.last) 0)))
