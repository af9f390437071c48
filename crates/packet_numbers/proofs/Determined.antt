-- Each promise of this crate allows one outcome; what is left as numbers is 80 numbers of 64 bits. Assumes nothing.
use Rattle.std.specs.Prelude.{Ok, Err}
use mathlib.Core.Path.{◌≡◌, refl, sym, ap, ◌∙◌, subst}
use mathlib.Core.Bool.{Bool, true, false}
use mathlib.Core.List.{List}
use Prim.Native.Nat.{ℕ}
use Rattle.answer.specs.Outcome.{Answer, Done}
use Rattle.packets.specs.declared.Packets.{Packets}
use Rattle.packets.specs.declared.Stepped.{Stepped}
use Rattle.packets.proofs.Determined as packets
use Rattle.packet_numbers.specs.Numbers.{state_of, strays, Stands, PieceTaken, PieceOn, CloseOn}
use Rattle.packet_numbers.proofs.Standing.{Numbers, stands_once}

pub numbers_of_determined : (st : Packets) (s t : List ℕ) → Numbers s → Numbers t → Stands st s → Stands st t → s ≡ t
numbers_of_determined st s t ns nt = stands_once ns nt

module _ (s piece old : List ℕ) (a b : Answer ℕ) (v w x y : List ℕ) (nv : Numbers v) (nw : Numbers w) where
  taken_once : PieceTaken s piece old a v x → PieceTaken s piece old b w y → (a ≡ b) × ((v ≡ w) × (x ≡ y))
  taken_once t u =
      let one = packets.piece_determined (state_of s) piece old t.stepped u.stepped x y t.allowed u.allowed in
      let same : a ≡ b = t.answers ∙ ap (λ (d : Stepped). d.answer) one.0 ∙ sym u.answers in
      (same, (by a refl same one.0, one.1))
    where
      by : (d : Answer ℕ) → a ≡ d → a ≡ b → t.stepped ≡ u.stepped → v ≡ w
      by (Ok n) e same one = stands_once nv nw (t.goes_on n e) (subst (λ (d : Stepped). Stands d.state w) (sym one) (u.goes_on n (sym same ∙ e)))
      by (Err k) e same one = t.stays k e ∙ sym (u.stays k (sym same ∙ e))

  pub piece_determined : PieceOn s piece old a v x → PieceOn s piece old b w y → (a ≡ b) × ((v ≡ w) × (x ≡ y))
  piece_determined p q = by (strays s) refl
    where
      by : (stray : Bool) → strays s ≡ stray → (a ≡ b) × ((v ≡ w) × (x ≡ y))
      by true e =
          let one = p.strayed e in
          let two = q.strayed e in
          (one.0 ∙ sym two.0, (one.1.0 ∙ sym two.1.0, one.1.1 ∙ sym two.1.1))
      by false e = taken_once (p.kept e) (q.kept e)

pub close_determined : (s : List ℕ) (a b : Done) → CloseOn s a → CloseOn s b → a ≡ b
close_determined s a b p q = by (strays s) refl
  where
    by : (stray : Bool) → strays s ≡ stray → a ≡ b
    by true e = p.strayed e ∙ sym (q.strayed e)
    by false e = packets.close_determined (state_of s) a b (p.kept e) (q.kept e)
