-- A TIFF file's header, its directories, their entries, and the fields that they say (rules 14.1 to 14.6).
-- Every definition is total: past the file's end 0 is read, and an earlier fault has decided by then. Assumes nothing.
use Rattle.std.specs.Prelude.{ℕ, zero, suc, ◌+◌, ◌-◌, ◌*◌, ◌≡◌, Bool, true, false, not, ◌&&◌, ◌||◌, List, [], ◌∷◌, ◌++◌, length, eqb, ltb, leb}
use Rattle.answer.specs.Outcome.{Fault, unless, invalid, truncated, limit, pick, outcome, Answer}
use Rattle.laws.specs.Turns.{every, faults_below}
use Rattle.words.specs.Word.{word_at}
use Rattle.entries.specs.declared.Directory.{Directory}
use Rattle.entries.specs.declared.Field.{Field}

-- a SHORT and a LONG at a place
abbrev pub short : List ℕ → Bool → ℕ → ℕ
short file le at = word_at file at 2 le

abbrev pub long : List ℕ → Bool → ℕ → ℕ
long file le at = word_at file at 4 le

-- the header: II or MM, which read the same in both orders; 42; the first directory's place
abbrev pub II : ℕ
II = 18761

abbrev pub MM : ℕ
MM = 19789

abbrev pub last_page : ℕ
last_page = 15

abbrev pub little : List ℕ → Bool
little file = eqb (short file true 0) II

unfoldable pub header_faults : List ℕ → ℕ → List Fault
header_faults file page =
    limit (ltb last_page page)
    ∷ truncated (ltb (length file) 8)
    ∷ invalid (not (eqb (short file true 0) II || eqb (short file true 0) MM))
    ∷ invalid (not (eqb (short file (little file) 2) 42))
    ∷ []

-- a directory: a count of entries, entries of twelve bytes, and the next directory's place
abbrev pub most_entries : ℕ
most_entries = 64

abbrev pub directory_at : List ℕ → Bool → ℕ → Directory
directory_at file le at = record { le = le; at = at; n = short file le at }

abbrev pub entry_at : Directory → ℕ → ℕ
entry_at d i = d.at + (2 + 12 * i)

abbrev pub tag_at : List ℕ → Directory → ℕ → ℕ
tag_at file d i = short file d.le (entry_at d i)

abbrev pub next_place : List ℕ → Directory → ℕ
next_place file d = long file d.le (entry_at d d.n)

abbrev pub directory_end : Directory → ℕ
directory_end d = d.at + (6 + 12 * d.n)

-- where page p's directory stands; 0 says that there is none
unfoldable pub place : List ℕ → Bool → ℕ → ℕ
place file le zero = long file le 4
place file le (suc p) = next_place file (directory_at file le (place file le p))

abbrev pub directory : List ℕ → ℕ → Directory
directory file p = directory_at file (little file) (place file (little file) p)

unfoldable pub ascending : List ℕ → Directory → Bool
ascending file d = every (d.n - 1) (λ i. ltb (tag_at file d i) (tag_at file d (i + 1)))

abbrev pub directory_faults : List ℕ → Directory → List Fault
directory_faults file d =
    invalid (eqb d.at 0)
    ∷ truncated (ltb (length file) (d.at + 2))
    ∷ limit (ltb most_entries d.n)
    ∷ truncated (ltb (length file) (directory_end d))
    ∷ invalid (not (ascending file d))
    ∷ []

-- each directory on the way to a page, the page's own too
unfoldable pub on_the_way : List ℕ → Bool → ℕ → List Fault
on_the_way file le p = directory_faults file (directory_at file le (place file le p))

abbrev pub open_faults : List ℕ → ℕ → List Fault
open_faults file page = header_faults file page ++ faults_below (page + 1) (on_the_way file (little file))

-- the first entry from i on, among m, whose tag is not lower: of ascending tags the entry of this tag, if there is one
abbrev pub seek : (ℕ → ℕ) → ℕ → ℕ → ℕ → ℕ
seek tags tag i zero = i
seek tags tag i (suc m) = pick (ltb (tags i) tag) (seek tags tag (i + 1) m) i

unfoldable pub entry_from : List ℕ → Directory → ℕ → ℕ → ℕ
entry_from file d from tag = seek (tag_at file d) tag from (d.n - from)

abbrev pub is_there : List ℕ → Directory → ℕ → ℕ → Bool
is_there file d tag i = ltb i d.n && eqb (tag_at file d i) tag

-- type 3 is SHORT; a number of any other type is read as a LONG
abbrev pub SHORT : ℕ
SHORT = 3

abbrev pub LONG : ℕ
LONG = 4

abbrev pub bytes_of : ℕ → ℕ → ℕ
bytes_of kind count = pick (eqb kind SHORT) (2 * count) (4 * count)

abbrev pub number_at : List ℕ → Bool → ℕ → ℕ → ℕ
number_at file le kind at = pick (eqb kind SHORT) (short file le at) (long file le at)

-- where so many bytes of values stand: in the entry if they take four bytes or fewer, else at the place that it says
abbrev pub values_at : List ℕ → Bool → ℕ → ℕ → ℕ
values_at file le inside bytes = pick (leb bytes 4) inside (long file le inside)

-- the field of entry i: its type, how many values it has and where they stand, and the number in the entry, which is the value where there is one
abbrev pub field_at : List ℕ → Directory → ℕ → Field
field_at file d i =
    let kind = short file d.le (entry_at d i + 2) in
    let count = long file d.le (entry_at d i + 4) in
    record {
      entry = i;
      there = true;
      kind = kind;
      count = count;
      place = values_at file d.le (entry_at d i + 8) (bytes_of kind count);
      value = number_at file d.le kind (entry_at d i + 8);
    }

-- a missing field counts as one SHORT, its default
abbrev pub missing : ℕ → ℕ → Field
missing i default = record { entry = i; there = false; kind = SHORT; count = 1; place = 0; value = default }

-- the field of a tag, looked for from an entry on: a directory that is not all in the file has none
unfoldable pub field_from : List ℕ → Directory → ℕ → ℕ → ℕ → Field
field_from file d from tag default =
    let i = entry_from file d from tag in
    pick (ltb (length file) (directory_end d)) (missing from default) (pick (is_there file d tag i) (field_at file d i) (missing i default))

abbrev pub field_of : List ℕ → Directory → ℕ → ℕ → Field
field_of file d tag default = field_from file d 0 tag default

-- a number that is all in the file, or 0
abbrev pub in_file : List ℕ → ℕ → ℕ → ℕ → ℕ
in_file file at width v = pick (ltb (length file) (at + width)) 0 v

-- value j of a field that has several
unfoldable pub value_of : List ℕ → Bool → Field → ℕ → ℕ
value_of file le f j =
    pick (eqb f.kind SHORT)
    (in_file file (f.place + 2 * j) 2 (short file le (f.place + 2 * j)))
    (in_file file (f.place + 4 * j) 4 (long file le (f.place + 4 * j)))

-- the faults of any field: missing, type, count, room. It must be there or has a default; has SHORTs alone or LONGs too; some values or one
unfoldable pub field_faults : ℕ → Bool → Bool → Bool → Field → List Fault
field_faults size required longs several f =
    invalid (required && not f.there)
    ∷ invalid (not (eqb f.kind SHORT || longs && eqb f.kind LONG))
    ∷ invalid (several && eqb f.count 0 || not several && not (eqb f.count 1))
    ∷ truncated (ltb size (f.place + bytes_of f.kind f.count))
    ∷ []

abbrev pub DirectoryOpened : List ℕ → ℕ → Answer Directory → Type 0
DirectoryOpened file page answer = outcome answer ≡ unless (open_faults file page) (directory file page)
