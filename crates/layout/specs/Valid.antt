-- Upstream's `valid`, clause by clause, to be held beside raster_layout.rs; and rule 5.3's limits. Theorems alone cite them. Assumes nothing.
use Rattle.std.specs.Prelude.{◌+◌, ◌-◌, ◌*◌, ◌/◌, ◌≤◌, ◌<◌, ◌≡◌, true, false, ◌⊎◌, eqb}
use Rattle.answer.specs.Outcome.{pick}
use Rattle.layout.specs.declared.RasterLayout.{RasterLayout}
use Rattle.layout.specs.Layout.{side_limit, byte_limit}

pub record Valid (l : RasterLayout) : Type 0 where
  pub some : ((0 < l.fields.w) × (0 < l.fields.h)) × ((1 ≤ l.fields.ch) × (l.fields.ch ≤ 4))
  pub byte_widths : ((l.fields.bytes ≡ 1) ⊎ (l.fields.bytes ≡ 2)) ⊎ (l.fields.bytes ≡ 8)
  pub eight_bytes : l.fields.bytes ≡ 8 → ((((l.fields.white ≡ false) × (l.fields.palette ≡ false)) × (l.fields.alpha ≡ 0)) × (l.fields.slots ≡ 1)) × ((l.fields.ch ≡ 1) ⊎ (l.fields.ch ≡ 3))
  pub alpha_kinds : l.fields.alpha ≤ 2
  pub with_alpha : (l.fields.alpha ≡ 0 → ⊥) → ((l.fields.bytes ≡ 1) × ((l.fields.ch ≡ 2) ⊎ (l.fields.ch ≡ 4))) × (l.fields.palette ≡ false)
  pub with_palette : l.fields.palette ≡ true → ((((l.fields.ch ≡ 3) × (l.fields.bytes ≡ 1)) × (((l.fields.slots ≡ 1) ⊎ (l.fields.slots ≡ 2)) ⊎ (l.fields.slots ≡ 8))) × (l.fields.separate ≡ false)) × (l.fields.alpha ≡ 0)
  pub without_palette : l.fields.palette ≡ false → (l.fields.slots ≡ 1) ⊎ ((((l.fields.slots ≡ 8) × (l.fields.ch ≡ 1)) × (l.fields.bytes ≡ 1)) × (l.fields.alpha ≡ 0))
  pub encoded_width_lem : l.encoded_width ≡ (l.fields.w - 1) / l.fields.slots + 1
  pub plane_channels_lem : l.plane_channels ≡ pick l.fields.palette 1 (pick l.fields.separate l.fields.bytes (l.fields.ch * l.fields.bytes))
  pub planes : l.planes ≡ pick l.fields.separate l.fields.ch 1
  pub plane_length_lem : l.plane_len ≡ l.encoded_width * l.fields.h * l.plane_channels
  pub scratch_length_lem : l.scratch_len ≡ l.plane_len * l.planes
  pub output_length_lem : l.output_len ≡ l.fields.w * l.fields.h * l.fields.ch * l.fields.bytes
  pub colours : l.colors ≡ pick (eqb l.fields.slots 8) 2 (pick (eqb l.fields.slots 2) 16 256)

-- step 3's limits
pub record Within (l : RasterLayout) : Type 0 where
  pub width : l.fields.w ≤ side_limit
  pub height : l.fields.h ≤ side_limit
  pub size : l.fields.w * l.fields.h * l.fields.ch * l.fields.bytes ≤ byte_limit
