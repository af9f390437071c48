-- Each promise of this crate allows one answer, and one content of the buffer. Assumes nothing.
use Rattle.std.specs.Prelude.{Ok, Err}
use Prim.Native.Nat.{ℕ}
use Rattle.answer.proofs.Promised.{answer_determined, kind, kind-number, once, answer_once}
use Rattle.answer.specs.Outcome.{Outcome, done, refused, Answer, Done}
use Rattle.directory.specs.Page.{DirectoryRead, Part, StripCut, StripPlaced, StripsPlaced, place_outcome}
use Rattle.directory.specs.declared.Page.{Page}
use mathlib.Core.List.{List}
use mathlib.Core.Path.{◌∙◌, ◌≡◌, ap, refl, sym}
use Rattle.answer.specs.declared.ByteAt.{ByteAt}

pub read_directory_determined : (file : List ℕ) (page : ℕ) (a b : Answer Page) → DirectoryRead file page a → DirectoryRead file page b → a ≡ b
read_directory_determined file page a b p q = answer_once a b (p ∙ sym q)

abbrev place-back : Outcome Part → (Answer (ByteAt × ℕ))
place-back (done p) = Ok (record { 0 = p.at }, p.bytes)
place-back (refused n) = Err (kind n)

place_told : (a : Answer (ByteAt × ℕ)) → place-back (place_outcome a) ≡ a
place_told (Ok p) = refl
place_told (Err k) = ap Err (kind-number k)

pub strip_place_determined : (file : List ℕ) (page k : ℕ) (a b : Answer (ByteAt × ℕ)) → StripPlaced file page k a → StripPlaced file page k b → a ≡ b
strip_place_determined file page k a b p q = once place_outcome place-back place_told a b (p ∙ sym q)

pub strip_determined : (file : List ℕ) (page k : ℕ) (a b : List ℕ) → StripCut file page k a → StripCut file page k b → a ≡ b
strip_determined file page k a b p q = p ∙ sym q

pub strip_places_determined : (file : List ℕ) (page : ℕ) (old : List ℕ) (a b : Done) (x y : List ℕ) → StripsPlaced file page old a x → StripsPlaced file page old b y → (a ≡ b) × (x ≡ y)
strip_places_determined file page old a b x y = answer_determined a b x y
