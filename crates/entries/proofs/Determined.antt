-- Each promise of this crate allows one answer. Assumes nothing.
use Prim.Native.Nat.{ℕ}
use Rattle.answer.proofs.Promised.{answer_once}
use Rattle.answer.specs.Outcome.{Step, Answer, Done}
use Rattle.entries.specs.Entries.{DirectoryOpened, field_faults, field_from, value_of}
use Rattle.entries.specs.declared.Directory.{Directory}
use Rattle.entries.specs.declared.Field.{Field}
use mathlib.Core.Bool.{Bool}
use mathlib.Core.List.{List}
use mathlib.Core.Path.{◌∙◌, ◌≡◌, sym}

pub open_directory_determined : (file : List ℕ) (page : ℕ) (a b : Answer Directory) → DirectoryOpened file page a → DirectoryOpened file page b → a ≡ b
open_directory_determined file page a b p q = answer_once a b (p ∙ sym q)

pub field_from_determined : (file : List ℕ) (d : Directory) (from tag default : ℕ) (a b : Field) → a ≡ field_from file d from tag default → b ≡ field_from file d from tag default → a ≡ b
field_from_determined file d from tag default a b p q = p ∙ sym q

pub value_determined : (file : List ℕ) (le : Bool) (f : Field) (j a b : ℕ) → a ≡ value_of file le f j → b ≡ value_of file le f j → a ≡ b
value_determined file le f j a b p q = p ∙ sym q

pub check_field_determined : (size : ℕ) (required longs several : Bool) (f : Field) (a b : Done) → Step (field_faults size required longs several f) a → Step (field_faults size required longs several f) b → a ≡ b
check_field_determined size required longs several f a b p q = answer_once a b (p.passed ∙ sym q.passed)
