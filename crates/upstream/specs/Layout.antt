-- Upstream's definitions of raster_layout.rs, to be held beside the source; `valid` stands in layout/specs/Valid.antt. What the source only calls is
-- filled in: `word16` from TIFF 6.0, `power2` as its name says, `straight_color` from rule 6.5. Differences are of natural numbers. Assumes nothing.
use Rattle.std.specs.Prelude.{ℕ, ◌+◌, ◌-◌, ◌*◌, ◌/◌, ◌%◌, ◌^◌, min, Bool, true, false, not, ◌&&◌, ◌||◌, List, get_or, eqb}
use Rattle.answer.specs.Outcome.{pick}
use Rattle.layout.specs.declared.RasterLayout.{RasterLayout}
use Rattle.upstream.specs.Native.{word16}

unfoldable pub source_index : RasterLayout → ℕ → ℕ
source_index l k =
    pick (l.fields.palette || eqb l.fields.slots 8)
    (let p = k / l.fields.ch in p / l.fields.w * l.encoded_width + p % l.fields.w / l.fields.slots)
    (let stride = l.fields.ch * l.fields.bytes in
    let p = k / stride in
    let c = k % stride in
    let sc = pick (eqb l.fields.bytes 2 && l.fields.le) (c - c % 2 + 1 - c % 2) c in
    pick l.fields.separate (sc / l.fields.bytes * l.plane_len + p * l.fields.bytes + sc % l.fields.bytes) (p * stride + sc))

abbrev pub power2 : ℕ → ℕ
power2 n = 2 ^ n

unfoldable pub palette_index : RasterLayout → ℕ → ℕ → ℕ
palette_index l k byte =
    let slot = k / 3 % l.fields.w % l.fields.slots in
    let shift = pick (eqb l.fields.slots 8) (7 - slot) (pick (eqb l.fields.slots 2) ((1 - slot) * 4) 0) in
    byte / power2 shift % l.colors

-- rule 6.5: u is v, or 255 - v with white; multiplied, 0 beside alpha 0, else 255 × u / a to nearest, halves upward, held at 255
unfoldable pub straight_color : ℕ → ℕ → Bool → Bool → ℕ
straight_color v a multiplied white =
    let u = pick white (255 - v) v in pick multiplied (pick (eqb a 0) 0 (min 255 ((2 * (255 * u) + a) / (2 * a)))) u

-- the source's != of two truth values
abbrev pub unequal : Bool → Bool → Bool
unequal true true = false
unequal true false = true
unequal false true = true
unequal false false = false

unfoldable pub converted : RasterLayout → List ℕ → List ℕ → ℕ → ℕ
converted l s raw k =
    let v = get_or raw (source_index l k) 0 in
    pick l.fields.palette (word16 s (l.fields.map + 2 * (k % 3 * l.colors + palette_index l k v)) l.fields.le / 256)
    (pick (eqb l.fields.slots 8) (let bit = v / power2 (7 - k % l.fields.w % 8) % 2 in pick (unequal (eqb bit 0) l.fields.white) 0 255)
    (pick (not (eqb l.fields.alpha 0) && not (eqb (k % l.fields.ch) (l.fields.ch - 1))) (straight_color v (get_or raw (source_index l (k - k % l.fields.ch + l.fields.ch - 1)) 0) (eqb l.fields.alpha 1) l.fields.white)
    (pick (l.fields.white && eqb l.fields.alpha 0) (255 - v) v)))
