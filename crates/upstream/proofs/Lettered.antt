-- Rule 11.1's cases A to L, as one table of the definitions that the promises are made of: what is expected beside what is computed, and one
-- proof that the two columns are the same. Assumes nothing.
use Prim.Native.Nat.{ℕ, ◌*◌}
use mathlib.Core.Path.{◌≡◌, refl}
use mathlib.Core.Bool.{Bool, true, false}
use mathlib.Core.List.{List, [], ◌∷◌}
use lib.ListN.{length, get_or}
use Rattle.answer.specs.Table.{table}
use Rattle.swaps.specs.Swapped.{swapped_at}
use Rattle.transport.specs.Moved.{reversed}
use Rattle.samples.specs.Sample.{strip, sample, difference, stored_at}
use Rattle.samples.specs.declared.Strip.{Strip}
use Rattle.damage.specs.Marks.{struck_at, marked, mark_byte, counted}
use Rattle.layout.specs.declared.RasterLayout.{RasterLayout}
use Rattle.layout.specs.Layout.{completed, encoded_width, plane_channels, planes, plane_length, scratch_length, output_length, colours, high_first, packed_index, plain_index}
use Rattle.pixels.specs.Render.{source, palette_index, straightened, plain_byte, converted}

pub record Case : Type 0 where
  pub expected : List ℕ
  pub computed : List ℕ

abbrev case : List ℕ → List ℕ → Case
case e c = record { expected = e; computed = c }

-- what `convert` writes of raw bytes, predicted; and what `render` writes of planes, without a file part
abbrev predicted : Strip → Bool → Bool → List ℕ → List ℕ
predicted g le out_le raw = table (length raw) (stored_at g.width out_le (sample g true le raw))

abbrev rendered : RasterLayout → List ℕ → List ℕ
rendered l raw = table l.output_len (converted l [] raw)

-- the layouts of cases G to K: one row of little-endian samples, black 0
abbrev row : ℕ → ℕ → ℕ → ℕ → Bool → Bool → ℕ → RasterLayout
row w ch bytes slots palette separate alpha =
    completed (record { w = w; h = 1; ch = ch; bytes = bytes; slots = slots; palette = palette; separate = separate; le = true; white = false; alpha = alpha; map = 0 })

abbrev bilevel : RasterLayout
bilevel = row 9 1 1 8 false false 0

abbrev palette : RasterLayout
palette = row 3 3 1 2 true false 0

abbrev planar : RasterLayout
planar = row 2 3 1 1 false true 0

abbrev pixel : RasterLayout
pixel = row 1 1 2 1 false false 0

abbrev multiplied : RasterLayout
multiplied = row 3 2 1 1 false false 1

-- case L's damage, and the marks and their count
abbrev third : List ℕ
third = 0 ∷ 0 ∷ 0 ∷ 1 ∷ 0 ∷ 0 ∷ 0 ∷ 0 ∷ 0 ∷ 0 ∷ 0 ∷ 0 ∷ 0 ∷ 0 ∷ 0 ∷ 0 ∷ []

abbrev marks : ℕ → Bool → List ℕ
marks channels predict = table 8 (λ n. mark_byte (marked (strip 8 channels 2) predict third n))

abbrev count : ℕ → Bool → List ℕ
count channels predict = counted 8 (marked (strip 8 channels 2) predict third) ∷ []

pub cases : List Case
cases =
    -- A
    case (0 ∷ 1 ∷ 0 ∷ 3 ∷ 0 ∷ 2 ∷ []) (predicted (strip 6 1 2) true false (1 ∷ 0 ∷ 2 ∷ 0 ∷ 255 ∷ 255 ∷ []))
    -- B
    ∷ case (10 ∷ 20 ∷ 30 ∷ 11 ∷ 22 ∷ 33 ∷ []) (predicted (strip 6 3 1) true true (10 ∷ 20 ∷ 30 ∷ 1 ∷ 2 ∷ 3 ∷ []))
    -- C
    ∷ case (5 ∷ 0 ∷ 7 ∷ 8 ∷ []) (predicted (strip 2 1 1) true true (5 ∷ 251 ∷ 7 ∷ 1 ∷ []))
    -- D
    ∷ case (5 ∷ 251 ∷ 7 ∷ 1 ∷ []) (table 4 (stored_at 1 true (difference (strip 2 1 1) true true (5 ∷ 0 ∷ 7 ∷ 8 ∷ []))))
    -- E
    ∷ case (128 ∷ 10 ∷ []) (table 2 (λ k. reversed (get_or (1 ∷ 80 ∷ []) k 0)))
    -- F
    ∷ case (3 ∷ 2 ∷ 1 ∷ 6 ∷ 5 ∷ 4 ∷ []) (table 6 (swapped_at (1 ∷ 2 ∷ 3 ∷ 4 ∷ 5 ∷ 6 ∷ []) 3))
    -- G
    ∷ case (255 ∷ 0 ∷ 0 ∷ 0 ∷ 0 ∷ 0 ∷ 0 ∷ 0 ∷ 255 ∷ []) (rendered bilevel (128 ∷ 128 ∷ []))
    -- H: the indices of the three columns
    ∷ case (1 ∷ 10 ∷ 7 ∷ []) (table 3 (λ x. palette_index palette x (source palette (26 ∷ 112 ∷ []) (3 * x))))
    -- I
    ∷ case (1 ∷ 3 ∷ 5 ∷ 2 ∷ 4 ∷ 6 ∷ []) (rendered planar (1 ∷ 2 ∷ 3 ∷ 4 ∷ 5 ∷ 6 ∷ []))
    -- J
    ∷ case (18 ∷ 52 ∷ []) (rendered pixel (52 ∷ 18 ∷ []))
    -- K: the three pixels' colours, each beside its alpha
    ∷ case (128 ∷ 255 ∷ 0 ∷ []) (table 3 (λ x. converted multiplied [] (100 ∷ 200 ∷ 200 ∷ 100 ∷ 9 ∷ 0 ∷ []) (2 * x)))
    -- L: predicted, unpredicted, and predicted with 2 channels
    ∷ case (0 ∷ 1 ∷ 1 ∷ 1 ∷ 0 ∷ 0 ∷ 0 ∷ 0 ∷ []) (marks 1 true)
    ∷ case (3 ∷ []) (count 1 true)
    ∷ case (0 ∷ 1 ∷ 0 ∷ 0 ∷ 0 ∷ 0 ∷ 0 ∷ 0 ∷ []) (marks 1 false)
    ∷ case (1 ∷ []) (count 1 false)
    ∷ case (0 ∷ 1 ∷ 0 ∷ 1 ∷ 0 ∷ 0 ∷ 0 ∷ 0 ∷ []) (marks 2 true)
    ∷ case (2 ∷ []) (count 2 true)
    ∷ []

abbrev pub expecteds : List Case → List (List ℕ)
expecteds [] = []
expecteds (c ∷ cs) = c.expected ∷ expecteds cs

abbrev pub computeds : List Case → List (List ℕ)
computeds [] = []
computeds (c ∷ cs) = c.computed ∷ computeds cs

pub lettered : expecteds cases ≡ computeds cases
unfolding cases sample difference struck_at marked encoded_width plane_channels planes plane_length scratch_length output_length colours high_first packed_index plain_index straightened plain_byte converted
lettered = refl
