-- Steps that look for faults one after another: what all come to, by what each came to. Assumes nothing.
use Rattle.std.proofs.Common.{◌≡◌, List, [], ◌∷◌, ◌++◌, Bool, true, false, refl}
use Rattle.answer.specs.Outcome.{Outcome, done, refused, Fault, unless, pick}
use Prim.{Unit}

-- the later outcome, unless the first is a refusal
abbrev pub next : Outcome (Unit {0}) → Outcome (Unit {0}) → Outcome (Unit {0})
next (done a) later = later
next (refused n) later = refused n

pub unless_next : (fs gs : List Fault) → unless (fs ++ gs) tt ≡ next (unless fs tt) (unless gs tt)
unless_next [] gs = refl
unless_next (f ∷ fs) gs = by f.found (unless_next fs gs)
  where
    by : (b : Bool) → unless (fs ++ gs) tt ≡ next (unless fs tt) (unless gs tt) → pick b (refused f.kind) (unless (fs ++ gs) tt) ≡ next (pick b (refused f.kind) (unless fs tt)) (unless gs tt)
    by true e = refl
    by false e = e
