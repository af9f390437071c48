-- Each promise of this crate allows one answer. Assumes nothing.
use Prim.Native.Nat.{ℕ}
use Rattle.answer.proofs.Promised.{answer_once}
use Rattle.answer.specs.Outcome.{Answer}
use Rattle.tags.specs.Tags.{TagsRead, strips_per_plane}
use Rattle.tags.specs.declared.Tags.{Tags}
use mathlib.Core.List.{List}
use mathlib.Core.Path.{◌∙◌, ◌≡◌, sym}

pub read_tags_determined : (file : List ℕ) (page : ℕ) (a b : Answer Tags) → TagsRead file page a → TagsRead file page b → a ≡ b
read_tags_determined file page a b p q = answer_once a b (p ∙ sym q)

pub strips_per_plane_determined : (rows each a b : ℕ) → a ≡ strips_per_plane rows each → b ≡ strips_per_plane rows each → a ≡ b
strips_per_plane_determined rows each a b p q = p ∙ sym q
