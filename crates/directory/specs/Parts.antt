-- What the crate's own functions need and answer. Assumes nothing.
use Rattle.std.specs.Prelude.{ℕ, ◌*◌, ◌<◌, ◌≡◌, List}
use Rattle.answer.specs.Outcome.{unless, Promise, outcome, Answer, Done}
use Rattle.answer.specs.declared.ByteAt.{ByteAt}
use Rattle.layout.specs.declared.RasterLayout.{RasterLayout}
use Rattle.layout.specs.Layout.{completed}
use Rattle.entries.specs.Entries.{directory}
use Rattle.tags.specs.declared.Tags.{Tags}
use Rattle.tags.specs.Tags.{tags_of}
use Rattle.directory.specs.declared.strips.Strips.{Strips}
use Rattle.directory.specs.declared.pages.Whole.{Whole}
use Rattle.directory.specs.declared.Page.{Page}
use Rattle.directory.specs.Page.{page_faults, strips_by, one_faults, strip_part, place_outcome, parts_faults, parts_of}

-- the bytes of a row of a layout that was accepted
abbrev pub SmallRow : RasterLayout → Type 0
SmallRow l = l.encoded_width * l.plane_channels < 4294967296

-- a page past every fault but its strips'
abbrev pub whole_by : Tags → Whole
whole_by t = record { layout = completed t.fields; predictor = t.predictor; compression = t.compression; strips = strips_by t }

abbrev pub PageOpened : List ℕ → ℕ → Answer Whole → Type 0
PageOpened file page answer = outcome answer ≡ unless (page_faults file page) (whole_by (tags_of file (directory file page)))

-- what a page with sound strips answers
abbrev pub page_by : Whole → Page
page_by w =
    record { layout = w.layout; predictor = w.predictor; strips = w.strips.offsets.count; compression = w.compression }

-- one strip, and all strips' places and lengths, of a page past its other faults
abbrev pub OnePlaced : List ℕ → Strips → ℕ → Answer (ByteAt × ℕ) → Type 0
OnePlaced file s k answer = place_outcome answer ≡ unless (one_faults file s k) (strip_part file s k)

abbrev pub PartsPlaced : List ℕ → Strips → List ℕ → Done → List ℕ → Type 0
PartsPlaced file s old answer new = Promise (unless (parts_faults file s old) tt) (parts_of file s) old (outcome answer) new
