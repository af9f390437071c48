-- What the crate's own functions need and answer. Assumes nothing.
use Rattle.std.specs.Prelude.{ℕ, ◌≤◌, ◌<◌, ◌≡◌, Bool, true, false, List, length}
use Rattle.answer.specs.Outcome.{unless, outcome, Answer}
use Rattle.entries.specs.declared.Directory.{Directory}
use Rattle.entries.specs.declared.Need.{Need}
use Rattle.entries.specs.declared.Need.TheVariants.{Required, Defaulted}
use Rattle.entries.specs.declared.Kinds.{Kinds}
use Rattle.entries.specs.declared.Kinds.TheVariants.{Shorts, LongsToo}
use Rattle.entries.specs.declared.Amount.{Amount}
use Rattle.entries.specs.declared.Amount.TheVariants.{One, Several}
use Rattle.entries.specs.Entries.{tag_at, directory_at, directory_end, directory_faults}

-- a directory that is all in the file, and an entry of it
abbrev pub Room : List ℕ → Directory → Type 0
Room file d = directory_end d ≤ length file

abbrev pub Entry : List ℕ → Directory → ℕ → Type 0
Entry file d i = (i < d.n) × Room file d

-- an entry from which on a tag can be looked for: the tags before it are lower
pub record From (file : List ℕ) (d : Directory) (from tag : ℕ) : Type 0 where
  pub room : Room file d
  pub within : from ≤ d.n
  pub lower : (j : ℕ) → j < from → tag_at file d j < tag

abbrev pub OpenedAt : List ℕ → Bool → ℕ → Answer Directory → Type 0
OpenedAt file le at answer = let d = directory_at file le at in outcome answer ≡ unless (directory_faults file d) d

-- what is asked of a field, as `field_faults` says it
abbrev pub is_required : Need → Bool
is_required Required = true
is_required Defaulted = false

abbrev pub takes_longs : Kinds → Bool
takes_longs Shorts = false
takes_longs LongsToo = true

abbrev pub is_several : Amount → Bool
is_several One = false
is_several Several = true
