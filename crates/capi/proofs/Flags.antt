-- A flag that is neither 0 nor 1 is a fault of step 1, after alpha: put there, it decides as it does when it is looked at first. Assumes nothing.
use Prim.Native.Nat.{ℕ}
use mathlib.Core.Path.{◌≡◌, refl}
use mathlib.Core.Bool.{Bool, true, false, not}
use mathlib.Core.List.{List, [], ◌∷◌, ◌++◌, map}
use lib.Dec.{eqb, ltb}
use Rattle.answer.specs.Outcome.{refused, Fault, unless, unsupported, pick}
use Rattle.layout.specs.Layout.{served_faults, agreed_faults, size_faults, layout_faults, completed, one_two_eight}
use Rattle.capi.specs.OnLayouts.{fields_of, flagged}

-- a fault after others of its number decides with them
among_same : {A : Type 0} (tests : List Bool) (flag : Bool) (later : List Fault) (a : A) → unless (map unsupported tests ++ (unsupported flag ∷ later)) a ≡ pick flag (refused 1) (unless (map unsupported tests ++ later) a)
among_same [] flag later a = refl
among_same (true ∷ tests) true later a = refl
among_same (true ∷ tests) false later a = refl
among_same (false ∷ tests) flag later a = among_same tests flag later a

-- the layout's faults with the flags in their place
pub flag_in_its_place : (s : List ℕ) → let f = fields_of s in unless (served_faults f ++ (unsupported (flagged s) ∷ (agreed_faults f ++ size_faults f))) (completed f) ≡ pick (flagged s) (refused 1) (unless (layout_faults f) (completed f))
flag_in_its_place s =
    let f = fields_of s in
    among_same (not (one_two_eight f.bytes) ∷ eqb f.ch 0 ∷ ltb 4 f.ch ∷ not (one_two_eight f.slots) ∷ ltb 2 f.alpha ∷ []) (flagged s) (agreed_faults f ++ size_faults f) (completed f)
