-- A list of which the part from a to e was replaced: what stands where. Assumes nothing.
use mathlib.Core.Path.{◌≡◌, ap, ◌∙◌}
use mathlib.Core.List.{List, ◌++◌}
use Prim.Native.Nat.{ℕ, ◌+◌, ◌-◌, ◌≤◌, ◌<◌}
use native.Mathlib.Omega.{arith}
use lib.ListN.{length, get_or, take, drop, length-append, length-take, length-drop, take-append-drop, get_or-append}
use lib.Seq.{get_or-append-add, get_or-take, get_or-drop}
use Rattle.answer.proofs.Filling.{part}

abbrev pub spliced : ℕ → ℕ → List ℕ → List ℕ → List ℕ
spliced a e l new = take a l ++ (new ++ drop (e - a) (drop a l))

module _ (a e : ℕ) (l new : List ℕ) (low : a ≤ e) (high : e ≤ length l) (same : length new ≡ e - a) where
  front_long : length (take a l) ≡ a
  front_long = simp length-take (omega arith)

  pub length_spliced : length (spliced a e l new) ≡ length l
  length_spliced = simp (length-append, length-take, length-drop) (omega (arith, same))

  pub spliced_front : (i : ℕ) → i < a → get_or (spliced a e l new) i 0 ≡ get_or l i 0
  spliced_front i h = get_or-append (take a l) (new ++ drop (e - a) (drop a l)) 0 i (omega (arith, front_long)) ∙ get_or-take a l i 0 h

  behind : (i : ℕ) → get_or (spliced a e l new) (a + i) 0 ≡ get_or (new ++ drop (e - a) (drop a l)) i 0
  behind i = rw front_long at (get_or-append-add (take a l) (new ++ drop (e - a) (drop a l)) i 0)

  pub spliced_part : (i : ℕ) → i < e - a → get_or (spliced a e l new) (a + i) 0 ≡ get_or new i 0
  spliced_part i h = behind i ∙ get_or-append new (drop (e - a) (drop a l)) 0 i (omega (arith, same))

  pub spliced_rest : (i : ℕ) → get_or (spliced a e l new) (e + i) 0 ≡ get_or l (e + i) 0
  spliced_rest i =
      let there : e + i ≡ a + (e - a + i) = omega arith in
      rw there (behind (e - a + i) ∙ (rw same at (get_or-append-add new (drop (e - a) (drop a l)) i 0)) ∙ get_or-drop (e - a) (drop a l) i 0 ∙ get_or-drop a l (e - a + i) 0)

-- with what was there it is as it was
pub spliced_same : (a e : ℕ) (l : List ℕ) → spliced a e l (part a e l) ≡ l
spliced_same a e l = ap (λ (x : List ℕ). take a l ++ x) (take-append-drop (e - a) (drop a l)) ∙ take-append-drop a l
