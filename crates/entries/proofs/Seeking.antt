-- Looking for a tag among ascending ones: a turn of the search, its end, where it may begin, and where the next tag's may. Assumes nothing.
use Prim.Native.Nat.{◌+◌, ◌-◌, ◌<◌, ◌≤◌, suc, zero, ℕ}
use Rattle.answer.specs.Outcome.{pick}
use Rattle.entries.specs.Entries.{directory_end, entry_from, field_at, field_from, field_of, is_there, missing, seek, tag_at}
use Rattle.entries.specs.Parts.{From, Room}
use Rattle.entries.specs.declared.Directory.{Directory}
use borrow.Author.Tests.{le-ltb, lt-ltb}
use lib.ListN.{length}
use mathlib.Core.Bool.{Bool, false, true}
use mathlib.Core.List.{List}
use mathlib.Core.Path.{◌∙◌, ◌≡◌, ap, refl}
use native.Mathlib.Decide.{dec_lt}
use native.Mathlib.Omega.{arith}

-- a lower tag is passed over
pub seek-on : (t : ℕ → ℕ) (tag i n : ℕ) → i < n → t i < tag → seek t tag i (n - i) ≡ seek t tag (i + 1) (n - (i + 1))
seek-on t tag i n more low = let one : n - i ≡ suc (n - (i + 1)) = omega arith in rw (one, lt-ltb (t i) tag low)

-- the search is over at an entry whose tag is not lower, or past the last
over : (t : ℕ → ℕ) (tag i m : ℕ) → (0 < m → tag ≤ t i) → i ≡ seek t tag i m
over t tag i zero h = refl
over t tag i (suc m) h = rw (le-ltb (t i) tag (h (omega arith)))

pub seek_over : (t : ℕ → ℕ) (tag i n : ℕ) → (i < n → tag ≤ t i) → i ≡ seek t tag i (n - i)
seek_over t tag i n h = over t tag i (n - i) (λ more. h (omega arith))

-- so it may begin past tags that are all lower
past_lower : (t : ℕ → ℕ) (tag c n : ℕ) → c ≤ n → ((j : ℕ) → j < c → t j < tag) → seek t tag 0 (n - 0) ≡ seek t tag c (n - c)
past_lower t tag zero n within low = refl
past_lower t tag (suc c) n within low =
    let next_one : c + 1 ≡ suc c = omega arith in
    past_lower t tag c n (omega arith) (λ j h. low j (omega arith)) ∙ seek-on t tag c n (omega arith) (low c (omega arith)) ∙ ap (λ (m : ℕ). seek t tag m (n - m)) next_one

pub field_next : (file : List ℕ) (d : Directory) (from tag default : ℕ) → From file d from tag → field_from file d from tag default ≡ field_of file d tag default
unfolding field_from entry_from
field_next file d from tag default is =
    rw (le-ltb (length file) (directory_end d) is.room, ← past_lower (tag_at file d) tag from d.n is.within is.lower)

-- what it leaves behind is lower
seek-within : (t : ℕ → ℕ) (tag i m : ℕ) → seek t tag i m ≤ i + m
seek-within t tag i zero = omega arith
seek-within t tag i (suc m) = by (dec_lt (t i) tag) (seek-within t tag (i + 1) m)
  where
    by : Dec (t i < tag) → seek t tag (i + 1) m ≤ i + 1 + m → seek t tag i (suc m) ≤ i + suc m
    by (yes l) rest = rw (lt-ltb (t i) tag l) (omega (arith, rest))
    by (no g) rest = rw (le-ltb (t i) tag (omega arith)) (omega arith)

seek-lower : (t : ℕ → ℕ) (tag i m j : ℕ) → i ≤ j → j < seek t tag i m → t j < tag
seek-lower t tag i zero j l h = absurd (omega arith)
seek-lower t tag i (suc m) j l h = by (dec_lt (t i) tag) (seek-lower t tag (i + 1) m j)
  where
    beyond : t i < tag → Dec (i < j) → (i + 1 ≤ j → j < seek t tag (i + 1) m → t j < tag) → t j < tag
    beyond low (yes more) rest = rest (omega arith) (rw (lt-ltb (t i) tag low) at h)
    beyond low (no same) rest = let e : i ≡ j = omega arith in rw e at low

    by : Dec (t i < tag) → (i + 1 ≤ j → j < seek t tag (i + 1) m → t j < tag) → t j < tag
    by (yes low) rest = beyond low (dec_lt i j) rest
    by (no g) rest = absurd (let z : j < i = rw (le-ltb (t i) tag (omega arith)) at h in omega arith)

-- where the search for the next tag begins
field_entry : (file : List ℕ) (d : Directory) (tag default : ℕ) → Room file d → (field_of file d tag default).entry ≡ entry_from file d 0 tag
unfolding field_from
field_entry file d tag default room = rw (le-ltb (length file) (directory_end d) room) (by (is_there file d tag (entry_from file d 0 tag)))
  where
    by : (b : Bool) → (pick b (field_at file d (entry_from file d 0 tag)) (missing (entry_from file d 0 tag) default)).entry ≡ entry_from file d 0 tag
    by true = refl
    by false = refl

pub from_field : (file : List ℕ) (d : Directory) (tag default higher : ℕ) → Room file d → tag < higher → From file d (field_of file d tag default).entry higher
unfolding entry_from
from_field file d tag default higher room h =
    rw (field_entry file d tag default room)
    record { room = room; within = omega (arith, seek-within (tag_at file d) tag 0 (d.n - 0)); lower = λ j l. omega (arith, seek-lower (tag_at file d) tag 0 (d.n - 0) j (omega arith) l) }
