-- Each promise of this crate allows one answer. Assumes nothing.
use mathlib.Core.Path.{◌≡◌, sym, ◌∙◌}
use Prim.Native.Nat.{ℕ}
use Rattle.answer.specs.Outcome.{Answer, Done}
use Rattle.answer.proofs.Promised.{answer_once, place_once}
use Rattle.answer.specs.declared.ByteAt.{ByteAt}
use Rattle.layout.specs.declared.Fields.{Fields}
use Rattle.layout.specs.declared.RasterLayout.{RasterLayout}
use Rattle.layout.specs.Layout.{colours_of, LayoutChecked, RecordChecked, Indexed}

pub colours_determined : (slots a b : ℕ) → a ≡ colours_of slots → b ≡ colours_of slots → a ≡ b
colours_determined slots a b p q = p ∙ sym q

pub check_layout_determined : (f : Fields) (a b : Answer RasterLayout) → LayoutChecked f a → LayoutChecked f b → a ≡ b
check_layout_determined f a b p q = answer_once a b (p ∙ sym q)

pub check_record_determined : (l : RasterLayout) (a b : Done) → RecordChecked l a → RecordChecked l b → a ≡ b
check_record_determined l a b p q = answer_once a b (p ∙ sym q)

pub index_determined : (l : RasterLayout) (k : ℕ) (a b : Answer ByteAt) → Indexed l k a → Indexed l k b → a ≡ b
index_determined l k a b p q = place_once a b (p ∙ sym q)
