-- A layout as C has it: a list of numbers, four of them flags that are 0 or 1. Any other flag is Unsupported, in step 1 of the layout's faults, after
-- alpha; all of that step have this one number, so a flag can be looked at first (rule 9.4; proofs/Flags.antt). Assumes nothing.
use Rattle.layout.specs.declared.RasterLayout.{RasterLayout}
use Rattle.std.specs.Prelude.{ℕ, ◌≡◌, Bool, true, false, not, ◌||◌, List, get_or, eqb, ltb, Err}
use Rattle.answer.specs.declared.Refusal.TheVariants.{Unsupported}
use Rattle.answer.specs.Outcome.{Answer}
use Rattle.layout.specs.declared.Fields.{Fields}
use Rattle.layout.specs.Layout.{LayoutChecked}

-- number n, taken as a flag
abbrev pub is_set : List ℕ → ℕ → Bool
is_set s n = not (eqb (get_or s n 0) 0)

-- the fields in the order of include/hamrisk.h
abbrev pub fields_of : List ℕ → Fields
fields_of s =
    record {
      w = get_or s 0 0;
      h = get_or s 1 0;
      ch = get_or s 2 0;
      bytes = get_or s 3 0;
      slots = get_or s 4 0;
      palette = is_set s 5;
      separate = is_set s 6;
      le = is_set s 7;
      white = is_set s 8;
      alpha = get_or s 9 0;
      map = get_or s 10 0;
    }

-- a flag is neither 0 nor 1
abbrev pub flagged : List ℕ → Bool
flagged s = ltb 1 (get_or s 5 0) || ltb 1 (get_or s 6 0) || ltb 1 (get_or s 7 0) || ltb 1 (get_or s 8 0)

-- what is promised of a call on a layout: of its fields, or, with such a flag, a refusal
pub record OnLayout (s : List ℕ) (Promised : Fields → Type 0) (Unserved : Type 0) : Type 0 where
  pub served : flagged s ≡ false → Promised (fields_of s)
  pub unserved : flagged s ≡ true → Unserved

-- a call that is refused as Unsupported and leaves what was lent to it
abbrev pub RefusedUnserved : {A : Type 0} → ℕ → A → A → Type 0
RefusedUnserved r old new = (r ≡ 1) × (new ≡ old)

abbrev pub Asked : List ℕ → Answer RasterLayout → Type 0
Asked s answer = OnLayout s (λ f. LayoutChecked f answer) (answer ≡ Err Unsupported)
