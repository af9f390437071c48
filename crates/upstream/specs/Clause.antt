-- The two words that upstream's clauses have in common: "ok", which is our answer that the work is finished, and "exactly if". Assumes nothing.
use Rattle.std.specs.Prelude.{◌≡◌}
use Rattle.answer.specs.Outcome.{Outcome, done}

abbrev pub Ok : {A : Type 0} → Outcome A → Type 0
Ok {A} o = (a : A) × (o ≡ done a)

abbrev pub Exactly : Type 0 → Type 0 → Type 0
Exactly P Q = (P → Q) × (Q → P)
