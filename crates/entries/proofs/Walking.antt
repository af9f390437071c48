-- Directories on the way to a page: what one that was opened says of its faults, and of the way so far. Assumes nothing.
use Rattle.std.specs.Prelude.{Ok, Err}
use Prim.Native.Nat.{◌+◌, ℕ}
use Rattle.answer.proofs.Promised.{sound_back, sound-here, sound_rest, sound_skip}
use Rattle.answer.specs.Outcome.{First, Sound, number, unless, outcome, Answer}
use Rattle.answer.specs.declared.Refusal.{Refusal}
use Rattle.entries.specs.Entries.{DirectoryOpened, directory, directory_at, directory_end, directory_faults, header_faults, little, next_place, on_the_way, open_faults, place}
use Rattle.entries.specs.Parts.{OpenedAt, Room}
use Rattle.entries.specs.declared.Directory.{Directory}
use Rattle.laws.proofs.Faults.{answered, declined}
use Rattle.laws.proofs.Turns.{turn_sound}
use Rattle.laws.specs.Turns.{faults_below}
use borrow.Author.Tests.{ltb-false}
use lib.ListN.{length}
use mathlib.Core.Bool.{Bool}
use mathlib.Core.List.{List}
use mathlib.Core.Path.{◌∙◌, ◌≡◌, refl, sym}
use native.Mathlib.Numerals.{add-one}
use native.Mathlib.Omega.{arith}

-- all entries of a sound directory are there
way_room : (file : List ℕ) (d : Directory) → Sound (directory_faults file d) → Room file d
way_room file d s = ltb-false (length file) (directory_end d) (sound-here (sound_rest (sound_rest (sound_rest s))))

-- the directory that was opened at the place of page p
module _ (file : List ℕ) (le : Bool) (at p : ℕ) (r : Answer Directory) (there : at ≡ place file le p) (opened : OpenedAt file le at r) where
  told : outcome r ≡ unless (directory_faults file (directory_at file le (place file le p))) (directory_at file le (place file le p))
  told = rw there at opened

  pub way_stopped : (k : Refusal) → r ≡ Err k → First (on_the_way file le p) (number k)
  unfolding on_the_way
  way_stopped k e = declined outcome (directory_faults file (directory_at file le (place file le p))) _ told e refl

  module _ (d : Directory) (e : r ≡ Ok d) where
    found : (d ≡ directory_at file le (place file le p)) × Sound (directory_faults file (directory_at file le (place file le p)))
    found = answered outcome _ _ told e refl

    pub way_sound : Sound (on_the_way file le p)
    unfolding on_the_way
    way_sound = found.1

    pub opened-room : Room file d
    opened-room = rw found.0 (way_room file (directory_at file le (place file le p)) found.1)

    pub way_on : (n : ℕ) → n ≡ next_place file d → n ≡ place file le (p + 1)
    unfolding place
    way_on n q = rw (add-one p) (rw found.0 at q)

  -- past the way to it
  pub walked : Sound (faults_below p (on_the_way file le)) → outcome r ≡ unless (faults_below (p + 1) (on_the_way file le)) (directory_at file le (place file le p))
  unfolding on_the_way
  walked s = rw (add-one p) (told ∙ sym (sound_skip (on_the_way file le p) _ s))

-- the directory of a page that was opened
module _ (file : List ℕ) (page : ℕ) (o : Answer Directory) (p : DirectoryOpened file page o) where
  pub page_unopened : (k : Refusal) → o ≡ Err k → First (open_faults file page) (number k)
  page_unopened k e = declined outcome (open_faults file page) (directory file page) p e refl

  module _ (d : Directory) (e : o ≡ Ok d) where
    pub page_found : (d ≡ directory file page) × Sound (open_faults file page)
    page_found = answered outcome (open_faults file page) (directory file page) p e refl

    own_way : Sound (directory_faults file (directory file page))
    unfolding on_the_way
    own_way = turn_sound (page + 1) (on_the_way file (little file)) page (omega arith) (sound_back (header_faults file page) _ page_found.1)

    pub page_room : Room file d
    page_room = rw page_found.0 (way_room file (directory file page) own_way)
