-- `words::load` meets its promise: it refuses exactly as `byte_place` does, whose width is not 0 here. Assumes nothing.
use borrow.Author.Tests.{ltb-false}
use mathlib.Core.Path.{◌≡◌, ap, ◌∙◌, sym}
use mathlib.Core.Bool.{Bool, true, false}
use mathlib.Core.List.{List, [], ◌∷◌}
use Prim.Native.Nat.{ℕ, ◌+◌, ◌*◌, ◌≤◌}
use native.Mathlib.Nat.{add-mul, one-mul}
use native.Mathlib.Omega.{arith}
use lib.Dec.{ltb}
use lib.ListN.{length}
use Rattle.answer.specs.Outcome.{Fault, done, unless, truncated, place_outcome, Answer}
use Rattle.answer.proofs.Promised.{done-sound, done-value, sound-here}
use Rattle.answer.specs.declared.ByteAt.{ByteAt}
use Rattle.words.specs.Promises.{load_width, Placed}
use Rattle.words.proofs.Served.{load_served}
use Rattle.words.proofs.load.Goals as goal

abbrev faults : ℕ → Bool → ℕ → List Fault
faults i wide bytes = truncated (ltb bytes ((i + 1) * load_width wide)) ∷ []

-- what `byte_place` promises of either width
settled : (i : ℕ) (wide : Bool) (bytes width : ℕ) (r : Answer ByteAt) → width ≡ load_width wide → Placed i width bytes r → unless (faults i wide bytes) (i * load_width wide) ≡ place_outcome r
settled i true bytes width r w p = sym (rw w at p)
settled i false bytes width r w p = sym (rw w at p)

-- a place that is answered is i × width, and the sample is within the bytes
found : (i : ℕ) (wide : Bool) (bytes at : ℕ) → unless (faults i wide bytes) (i * load_width wide) ≡ done at → (at ≡ i * load_width wide) × ((i + 1) * load_width wide ≤ bytes)
found i wide bytes at e =
    (sym (done-value (faults i wide bytes) (i * load_width wide) at e), ltb-false bytes ((i + 1) * load_width wide) (sound-here (done-sound (faults i wide bytes) (i * load_width wide) at e)))

pub get-requires : goal.get-requires
get-requires c =
    let answered : let args = c.args in unless (faults args.i.0 args.wide (length args.s.now)) (args.i.0 * load_width args.wide) ≡ place_outcome c.byte_place.result = settled _ c.args.wide _ _ c.byte_place.result c.load_width-width.ensures c.byte_place.ensures in
    let placed : let args = c.args in (c.in_ok-at.at.0 ≡ args.i.0 * load_width args.wide) × ((args.i.0 + 1) * load_width args.wide ≤ length args.s.now) = let args = c.args in
    found args.i.0 args.wide (length args.s.now) _ (answered ∙ ap place_outcome c.in_ok-at.was) in
    let args = c.args in
    let width = load_width args.wide in
    (rw c.load_width-width.ensures (load_served args.wide), omega (arith, c.load_width-width.ensures, placed, add-mul args.i.0 1 width, one-mul width))
