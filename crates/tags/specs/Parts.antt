-- What the crate's own functions need and answer. Assumes nothing.
use Rattle.tags.specs.declared.Tags.{Tags}
use Rattle.std.specs.Prelude.{ℕ, ◌≡◌, List}
use Rattle.answer.specs.Outcome.{unless, outcome, Answer}
use Rattle.entries.specs.declared.Directory.{Directory}
use Rattle.entries.specs.Parts.{Room}
use Rattle.tags.specs.declared.shape.Shape.{Shape}
use Rattle.tags.specs.Tags.{shape_of, tags_of, later_faults, said_faults}

-- the tags up to 262, read
pub record Shaped (file : List ℕ) (d : Directory) (s : Shape) : Type 0 where
  pub room : Room file d
  pub is : s ≡ shape_of file d

-- the tags past 262, and all tags
abbrev pub LaterRead : List ℕ → Directory → Answer Tags → Type 0
LaterRead file d answer = outcome answer ≡ unless (later_faults file d) (tags_of file d)

abbrev pub UsedRead : List ℕ → Directory → Answer Tags → Type 0
UsedRead file d answer = outcome answer ≡ unless (said_faults file d) (tags_of file d)
