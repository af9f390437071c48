-- Each promise of this crate allows one outcome. Assumes nothing.
use Rattle.std.proofs.Common.{◌≡◌, ℕ, Bool, List, sym, ◌∙◌}
use Rattle.answer.proofs.Promised.{answer_determined}
use Rattle.answer.specs.Outcome.{Done}
use Rattle.samples.specs.declared.Strip.{Strip}
use Rattle.rows.specs.Row.{one_row, Transformed, RowTransformed}
use Rattle.rows.specs.Resume.{RowResumed}

pub transform_rows_determined : (raw : List ℕ) (g : Strip) (predict le out_le forward : Bool) (old : List ℕ) (a b : Done) (x y : List ℕ) → Transformed raw g predict le out_le forward old a x → Transformed raw g predict le out_le forward old b y → (a ≡ b) × (x ≡ y)
transform_rows_determined raw g predict le out_le forward old a b x y = answer_determined a b x y

pub transform_row_determined : (raw : List ℕ) (channels width : ℕ) (predict le out_le forward : Bool) (old : List ℕ) (a b : Done) (x y : List ℕ) → RowTransformed raw channels width predict le out_le forward old a x → RowTransformed raw channels width predict le out_le forward old b y → (a ≡ b) × (x ≡ y)
transform_row_determined raw channels width = transform_rows_determined raw (one_row raw channels width)

pub resume_row_determined : (raw : List ℕ) (first channels width : ℕ) (le out_le : Bool) (start old : List ℕ) (a b : Done) (s t x y : List ℕ) → RowResumed raw first channels width le out_le start old a s x → RowResumed raw first channels width le out_le start old b t y → (a ≡ b) × ((s ≡ t) × (x ≡ y))
resume_row_determined raw first channels width le out_le start old a b s t x y p q =
    let one = answer_determined a b x y p.writes q.writes in (one.0, (p.sums ∙ sym q.sums, one.1))
