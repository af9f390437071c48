-- From what each part answers to what the calls promise. Assumes nothing.
use Rattle.directory.specs.declared.Page.{Page}
use Rattle.std.specs.Prelude.{Ok, Err}
use Prim.Native.Nat.{◌+◌, ◌≤◌, ℕ}
use Rattle.answer.proofs.Promised.{first_more, refuses, refusing, sound_back, sound-here, sound_rest, sound_skip}
use Rattle.answer.specs.Outcome.{Fault, Outcome, Promise, Sound, after, number, refused, unless, outcome, Answer, Done}
use Rattle.answer.specs.declared.ByteAt.{ByteAt}
use Rattle.answer.specs.declared.Refusal.{Refusal}
use Rattle.directory.specs.Page.{DirectoryRead, Part, StripCut, StripPlaced, StripsPlaced, cut, one_faults, page_faults, page_of, page_strips, parts_faults, place_faults, place_outcome, strip_faults, strip_length, strip_part, strip_place, strips_faults}
use Rattle.directory.specs.Parts.{OnePlaced, PageOpened, PartsPlaced, page_by, whole_by}
use Rattle.directory.specs.declared.pages.Whole.{Whole}
use Rattle.directory.specs.declared.strips.Strips.{Strips}
use Rattle.entries.specs.Entries.{directory}
use Rattle.entries.specs.declared.Directory.{Directory}
use Rattle.laws.proofs.Faults.{answered, declined}
use Rattle.tags.specs.Tags.{tags_of}
use borrow.Author.Tests.{ltb-false}
use lib.ListN.{drop, length, take}
use mathlib.Core.List.{List, [], ◌++◌}
use mathlib.Core.Path.{◌∙◌, ◌≡◌, ap, refl, sym}
use native.Mathlib.Omega.{arith}

-- a promise of the faults that are left
skip_promise : {A : Type 0} {fs : List Fault} (gs : List Fault) (a : A) (w old : List ℕ) {answer : Outcome A} {new : List ℕ} → Sound fs → Promise (unless gs a) w old answer new → Promise (unless (fs ++ gs) a) w old answer new
skip_promise {A} gs a w old sound p =
    let same = sym (sound_skip gs a sound) in
    record { answers = p.answers ∙ same; leaves = p.leaves ∙ ap (λ (o : Outcome A). after o w old) same }

module _ (file : List ℕ) (page : ℕ) (o : Answer Whole) (p : PageOpened file page o) where
  abbrev d : Directory
  d = directory file page

  pub page_refused : {A : Type 0} (gs : List Fault) (x : A) (k : Refusal) → o ≡ Err k → refused (number k) ≡ unless (page_faults file page ++ gs) x
  page_refused gs x k e = refusing (page_faults file page ++ gs) x (first_more gs (declined outcome (page_faults file page) (whole_by (tags_of file d)) p e refl))

  pub parts_refused : (old : List ℕ) (k : Refusal) → o ≡ Err k → StripsPlaced file page old (Err k) old
  parts_refused old k e = refuses (page_faults file page ++ parts_faults file (page_strips file d) old) tt _ old (first_more _ (declined outcome (page_faults file page) (whole_by (tags_of file d)) p e refl))

  module _ (w : Whole) (e : o ≡ Ok w) where
    found : (w ≡ whole_by (tags_of file d)) × Sound (page_faults file page)
    found = answered outcome (page_faults file page) (whole_by (tags_of file d)) p e refl

    -- all strips
    pub all-strips : (r : Answer Page) → outcome r ≡ unless (strips_faults file w.strips) (page_by w) → DirectoryRead file page r
    all-strips r q = rw found.0 at q ∙ sym (sound_skip (strips_faults file (page_strips file d)) (page_of file d) found.1)

    pub all_places : (old new : List ℕ) (r : Done) → PartsPlaced file w.strips old r new → StripsPlaced file page old r new
    all_places old new r q = skip_promise _ tt _ old found.1 (rw found.0 at q)

    pub one_place : (k : ℕ) (r : Answer (ByteAt × ℕ)) → OnePlaced file w.strips k r → StripPlaced file page k r
    one_place k r q = rw found.0 at q ∙ sym (sound_skip (one_faults file (page_strips file d) k) (strip_part file (page_strips file d) k) found.1)

-- the part of the file
module _ (file : List ℕ) (page k : ℕ) (r : Answer (ByteAt × ℕ)) (p : StripPlaced file page k r) where
  abbrev strips : Strips
  strips = page_strips file (directory file page)

  pub no_part : (n : Refusal) → r ≡ Err n → StripCut file page k []
  no_part n e = ap (cut file) (sym (ap place_outcome e) ∙ p)

  pub a_part : (at : ByteAt) (bytes : ℕ) → r ≡ Ok (at, bytes) → StripCut file page k (take bytes (drop at.0 file))
  a_part at bytes e = ap (cut file) (sym (ap place_outcome e) ∙ p)

  pub inside : (at : ByteAt) (bytes : ℕ) → r ≡ Ok (at, bytes) → at.0 + bytes ≤ length file
  unfolding strip_faults
  inside at bytes e =
      let found = answered place_outcome (place_faults file page k) (strip_part file strips k) p e refl in
      let room : strip_place file strips k + strip_length file strips k ≤ length file = ltb-false _ _ (sound-here (sound_rest (sound_rest (sound_back (page_faults file page) _ found.1)))) in
      let from : at.0 ≡ strip_place file strips k = ap (λ (q : Part). q.at) found.0 in
      let n : bytes ≡ strip_length file strips k = ap (λ (q : Part). q.bytes) found.0 in omega (arith, room, from, n)
