-- What is promised of strips (rules 3.6 to 3.11): the order of refusals, and each sample stored in the asked byte order. Assumes nothing.
use Rattle.std.specs.Prelude.{ℕ, ◌*◌, ◌%◌, ◌≡◌, Bool, not, List, [], ◌∷◌, ◌++◌, length, eqb, ltb}
use Rattle.answer.specs.Outcome.{Fault, unless, unsupported, invalid, output_too_small, Promise, outcome, Done}
use Rattle.answer.specs.Table.{table}
use Rattle.words.specs.Promises.{served}
use Rattle.samples.specs.Sample.{word_of, sample, difference, stored_at}
use Rattle.samples.specs.declared.Strip.{Strip}

-- the faults of a strip's geometry (rule 3.6)
abbrev pub strip_faults : ℕ → Strip → List Fault
strip_faults bytes g =
    unsupported (not (served g.width))
    ∷ unsupported (eqb g.channels 0)
    ∷ unsupported (ltb 64 g.channels)
    ∷ unsupported (eqb g.row 0)
    ∷ invalid (not (eqb (g.row % (g.channels * g.width)) 0))
    ∷ invalid (not (eqb (bytes % g.row) 0))
    ∷ []

abbrev pub StripChecked : ℕ → Strip → Done → Type 0
StripChecked bytes g answer = outcome answer ≡ unless (strip_faults bytes g) tt

-- and of a call that writes as many bytes as it reads
abbrev pub convert_faults : List ℕ → Strip → List ℕ → List Fault
convert_faults raw g old = strip_faults (length raw) g ++ (output_too_small (ltb (length old) (length raw)) ∷ [])

abbrev pub Converted : List ℕ → Strip → Bool → Bool → Bool → List ℕ → Done → List ℕ → Type 0
Converted raw g predict le out_le old answer new =
    Promise (unless (convert_faults raw g old) tt) (table (length raw) (stored_at g.width out_le (sample g predict le raw))) old (outcome answer) new

abbrev pub Forwarded : List ℕ → Strip → Bool → Bool → Bool → List ℕ → Done → List ℕ → Type 0
Forwarded raw g predict le out_le old answer new =
    Promise (unless (convert_faults raw g old) tt) (table (length raw) (stored_at g.width out_le (difference g predict le raw))) old (outcome answer) new

-- the words of a strip in another byte order (rule 3.11)
abbrev pub reorder_faults : List ℕ → ℕ → List ℕ → List Fault
reorder_faults raw width old =
    unsupported (not (served width)) ∷ invalid (not (eqb (length raw % width) 0)) ∷ output_too_small (ltb (length old) (length raw)) ∷ []

abbrev pub Reordered : List ℕ → ℕ → Bool → Bool → List ℕ → Done → List ℕ → Type 0
Reordered raw width le out_le old answer new =
    Promise (unless (reorder_faults raw width old) tt) (table (length raw) (stored_at width out_le (word_of width le raw))) old (outcome answer) new
