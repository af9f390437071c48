-- Each promise of this crate allows one answer and one content of the buffer. Assumes nothing.
use Prim.Native.Nat.{ℕ}
use mathlib.Core.Path.{◌≡◌, sym, ◌∙◌}
use mathlib.Core.List.{List}
use Rattle.answer.specs.Outcome.{outcome, Answer}
use Rattle.answer.proofs.Promised.{determined, answer_once}
use Rattle.layout.specs.declared.RasterLayout.{RasterLayout}
use Rattle.files.specs.File.{Measured, FileWritten}

pub file_length_determined : (l : RasterLayout) (each : ℕ) (a b : Answer ℕ) → Measured l each a → Measured l each b → a ≡ b
file_length_determined l each a b p q = answer_once a b (p ∙ sym q)

pub write_file_determined : (l : RasterLayout) (each : ℕ) (planes old : List ℕ) (a b : Answer ℕ) (x y : List ℕ) → FileWritten l each planes old a x → FileWritten l each planes old b y → (a ≡ b) × (x ≡ y)
write_file_determined l each planes old a b x y p q =
    let one = determined (outcome a) (outcome b) x y p q in (answer_once a b one.0, one.1)
