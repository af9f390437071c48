-- The layout of a page: what the layout check says of it, and that its rows are short. Assumes nothing.
use Rattle.directory.specs.declared.pages.Whole.{Whole}
use Rattle.std.specs.Prelude.{Ok, Err}
use Prim.Native.Nat.{◌*◌, ◌<◌, ℕ}
use Rattle.answer.proofs.Promised.{first_more, refusing, sound_skip}
use Rattle.answer.specs.Outcome.{Sound, unless, outcome, Answer}
use Rattle.answer.specs.declared.Refusal.{Refusal}
use Rattle.directory.specs.Page.{page_faults}
use Rattle.directory.specs.Parts.{PageOpened, SmallRow, whole_by}
use Rattle.entries.specs.Entries.{directory}
use Rattle.entries.specs.declared.Directory.{Directory}
use Rattle.laws.proofs.Faults.{answered, declined}
use Rattle.layout.proofs.Accepted.{accepted}
use Rattle.layout.proofs.Sizes.{encoded_side, plane_few}
use Rattle.layout.specs.Layout.{completed, encoded_width, layout_faults, plane_channels}
use Rattle.layout.specs.declared.Fields.{Fields}
use Rattle.layout.specs.declared.RasterLayout.{RasterLayout}
use Rattle.tags.specs.Tags.{TagsRead, tag_faults, tags_of}
use Rattle.tags.specs.declared.Tags.{Tags}
use mathlib.Core.List.{List, ◌++◌}
use mathlib.Core.Path.{◌∙◌, ◌≡◌, refl, sym}
use native.Mathlib.Nat.{mul-le-mul}
use native.Mathlib.Omega.{arith}

row_small : (f : Fields) → Sound (layout_faults f) → encoded_width f * plane_channels f < 4294967296
row_small f s = omega (arith, mul-le-mul (encoded_side f (accepted f s)) (plane_few f (accepted f s)))

pub laid_small : (f : Fields) (l : RasterLayout) → (l ≡ completed f) × Sound (layout_faults f) → (l ≡ completed f) × SmallRow l
laid_small f l p = (p.0, rw p.0 (row_small f p.1))

-- a page whose tags were read
module _ (file : List ℕ) (page : ℕ) (o : Answer Tags) (p : TagsRead file page o) where
  abbrev d : Directory
  d = directory file page

  pub tags_refused : (k : Refusal) → o ≡ Err k → PageOpened file page (Err k)
  unfolding page_faults
  tags_refused k e = refusing (tag_faults file page ++ layout_faults (tags_of file d).fields) _ (first_more _ (declined outcome (tag_faults file page) (tags_of file d) p e refl))

  pub tags_laid : (t : Tags) (r : Answer Whole) → o ≡ Ok t → outcome r ≡ unless (layout_faults t.fields) (whole_by t) → PageOpened file page r
  unfolding page_faults
  tags_laid t r e q =
      let found = answered outcome (tag_faults file page) (tags_of file d) p e refl in
      rw found.0 at q ∙ sym (sound_skip (layout_faults (tags_of file d).fields) _ found.1)
