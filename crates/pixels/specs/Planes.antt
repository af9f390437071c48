-- Plane writing (rules 7.1 to 7.4): the planes whose rendering is a picture. And the order of `write_planes`' refusals. Assumes nothing.
use Rattle.std.specs.Prelude.{ℕ, zero, suc, ◌+◌, ◌-◌, ◌*◌, ◌/◌, ◌%◌, Bool, true, not, ◌&&◌, ◌||◌, List, [], ◌∷◌, ◌++◌, length, get_or, eqb, ltb}
use Rattle.answer.specs.Outcome.{Fault, unless, pick, unsupported, invalid, truncated, output_too_small, Promise, xor, outcome, Done}
use Rattle.answer.specs.Table.{table}
use Rattle.words.specs.Digits.{digit, value}
use Rattle.layout.specs.declared.RasterLayout.{RasterLayout}
use Rattle.layout.specs.Layout.{record_faults, high_first}
use Rattle.pixels.specs.Render.{flipped}

-- the byte of the picture that place i of the planes takes, where a place holds one byte
unfoldable pub place_index : RasterLayout → ℕ → ℕ
place_index l i =
    let stride = l.fields.ch * l.fields.bytes in
    let within = i % l.plane_len in
    pick l.fields.separate (within / l.fields.bytes * stride + high_first l.fields.bytes l.fields.le (i / l.plane_len * l.fields.bytes + within % l.fields.bytes)) (i / stride * stride + high_first l.fields.bytes l.fields.le (i % stride))

-- white inverts every channel but alpha, and so byte k
abbrev pub flips_channel : RasterLayout → ℕ → Bool
flips_channel l c = l.fields.white && (eqb l.fields.alpha 0 || not (eqb c (l.fields.ch - 1)))

abbrev pub flips : RasterLayout → ℕ → Bool
flips l k = flips_channel l (k % l.fields.ch)

-- the bit of a bilevel byte
abbrev pub bilevel_bit : Bool → ℕ → ℕ
bilevel_bit white v = pick (xor (eqb v 0) white) 0 1

-- the column whose bit is bit p of byte i of bilevel planes
abbrev pub column : RasterLayout → ℕ → ℕ → ℕ
column l i p = 8 * (i % l.encoded_width) + (7 - p)

-- byte i of bilevel planes, with 0 past the row's end
unfoldable pub bilevel_plane : RasterLayout → List ℕ → ℕ → ℕ
bilevel_plane l picture i =
    value 2 8 (λ p. pick (ltb (column l i p) l.fields.w) (bilevel_bit l.fields.white (get_or picture (i / l.encoded_width * l.fields.w + column l i p) 0)) 0)

unfoldable pub written : RasterLayout → List ℕ → ℕ → ℕ
written l picture i =
    pick (eqb l.fields.slots 8) (bilevel_plane l picture i) (flipped (flips l (place_index l i)) (get_or picture (place_index l i) 0))

-- every byte below n is 0 or 255
abbrev pub two_levels : ℕ → List ℕ → Bool
two_levels zero picture = true
two_levels (suc n) picture = two_levels n picture && (eqb (get_or picture n 0) 0 || eqb (get_or picture n 0) 255)

-- rule 7.3's order, past the record's faults
abbrev pub plane_faults : RasterLayout → List ℕ → List ℕ → List Fault
plane_faults l picture old =
    unsupported l.fields.palette
    ∷ unsupported (eqb l.fields.bytes 8)
    ∷ unsupported (eqb l.fields.alpha 1)
    ∷ truncated (ltb (length picture) l.output_len)
    ∷ output_too_small (ltb (length old) l.scratch_len)
    ∷ invalid (eqb l.fields.slots 8 && not (two_levels l.output_len picture))
    ∷ []

abbrev pub write_faults : RasterLayout → List ℕ → List ℕ → List Fault
write_faults l picture old = record_faults l ++ plane_faults l picture old

abbrev pub Written : RasterLayout → List ℕ → List ℕ → Done → List ℕ → Type 0
Written l picture old answer new =
    Promise (unless (write_faults l picture old) tt) (table l.scratch_len (written l picture)) old (outcome answer) new

-- planes with the padding bits of bilevel rows 0: what writing gives back of what was rendered
unfoldable pub unpadded : RasterLayout → List ℕ → ℕ → ℕ
unpadded l raw i =
    pick (eqb l.fields.slots 8) (value 2 8 (λ p. pick (ltb (column l i p) l.fields.w) (digit 2 p (get_or raw i 0)) 0)) (get_or raw i 0)
