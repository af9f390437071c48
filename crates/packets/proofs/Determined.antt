-- Each promise of this crate allows one outcome. Assumes nothing.
use mathlib.Core.Path.{◌≡◌, sym, ap, ◌∙◌}
use mathlib.Core.List.{List}
use Prim.Native.Nat.{ℕ}
use Rattle.answer.specs.Outcome.{outcome, Answer, Done}
use Rattle.answer.proofs.Promised.{determined, answer_once}
use Rattle.packets.specs.declared.Packets.{Packets}
use Rattle.packets.specs.declared.Started.{Started}
use Rattle.packets.specs.declared.Stepped.{Stepped}
use Rattle.packets.specs.declared.Plan.{Plan}
use Rattle.packets.specs.Promises.{Begun, Took, TookLent, Closed}

abbrev started : Packets → Done → Started
started s d = record { state = s; answer = d }

abbrev stepped : Packets → Answer ℕ → Stepped
stepped s d = record { state = s; answer = d }

started_same : (a b : Started) → a.state ≡ b.state → a.answer ≡ b.answer → a ≡ b
started_same a b s e = ap (λ (x : Packets). started x a.answer) s ∙ ap (started b.state) e

stepped_same : (a b : Stepped) → a.state ≡ b.state → a.answer ≡ b.answer → a ≡ b
stepped_same a b s e = ap (λ (x : Packets). stepped x a.answer) s ∙ ap (stepped b.state) e

pub start_determined : (p : Plan) (a b : Started) → Begun p a → Begun p b → a ≡ b
start_determined p a b x y = started_same a b (x.state ∙ sym y.state) (answer_once a.answer b.answer (x.answers ∙ sym y.answers))

pub piece_determined : (st : Packets) (piece old : List ℕ) (a b : Stepped) (x y : List ℕ) → Took st piece old a x → Took st piece old b y → (a ≡ b) × (x ≡ y)
piece_determined st piece old a b x y s t =
    let one = determined (outcome a.answer) (outcome b.answer) x y s.writes t.writes in
    (stepped_same a b (s.state ∙ sym t.state) (answer_once a.answer b.answer one.0), one.1)

pub lent_piece_determined : (st : Packets) (piece old : List ℕ) (a b : Answer ℕ) (t u v w x y : List ℕ) → TookLent st piece old a t v x → TookLent st piece old b u w y → (a ≡ b) × ((t ≡ u) × ((v ≡ w) × (x ≡ y)))
lent_piece_determined st piece old a b t u v w x y p q =
    let one = determined (outcome a) (outcome b) x y p.writes q.writes in
    (answer_once a b one.0, (p.tails ∙ sym q.tails, (p.sums_are ∙ sym q.sums_are, one.1)))

pub close_determined : (st : Packets) (a b : Done) → Closed st a → Closed st b → a ≡ b
close_determined st a b x y = answer_once a b (x ∙ sym y)
