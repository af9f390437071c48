-- What the calls that read directories lend back: a page as twenty-one numbers, and a strip's place and length (rule 9.7). Assumes nothing.
use Rattle.std.specs.Prelude.{ℕ, Bool, List, [], ◌∷◌, ◌++◌}
use Rattle.answer.specs.Outcome.{Outcome, pick, outcome, Answer}
use Rattle.answer.specs.declared.ByteAt.{ByteAt}
use Rattle.layout.specs.declared.Fields.{Fields}
use Rattle.directory.specs.declared.Page.{Page}
use Rattle.directory.specs.Page.{Part, place_outcome}
use Rattle.capi.specs.Told.{taking, derived_of}

-- a flag as a number
abbrev pub flag_of : Bool → ℕ
flag_of b = pick b 1 0

-- the fields in the order of include/hamrisk.h
abbrev pub layout_of : Fields → List ℕ
layout_of f =
    f.w
    ∷ f.h
    ∷ f.ch
    ∷ f.bytes
    ∷ f.slots
    ∷ flag_of f.palette
    ∷ flag_of f.separate
    ∷ flag_of f.le
    ∷ flag_of f.white
    ∷ f.alpha
    ∷ f.map
    ∷ []

abbrev pub numbers_of : Page → List ℕ
numbers_of p = layout_of p.layout.fields ++ (derived_of p.layout ++ (p.predictor ∷ p.strips ∷ p.compression ∷ []))

abbrev pub found_numbers : Answer Page → Outcome (List ℕ)
found_numbers answer = taking numbers_of (outcome answer)

abbrev pub pair_of : Part → ℕ × ℕ
pair_of p = (p.at, p.bytes)

abbrev pub place_numbers : Answer (ByteAt × ℕ) → Outcome (ℕ × ℕ)
place_numbers answer = taking pair_of (place_outcome answer)
