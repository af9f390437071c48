-- `layout::source::plain_index` meets its contract: nothing divides by 0, the sample's place is there, and the byte is within the planes.
-- Assumes nothing.
use borrow.Author.Tests.{ne_eqb, le-ltb}
use native.Mathlib.Omega.{arith}
use native.Mathlib.Nat.{le-mul_of_pos_right, mul_comm}
use Prim.Native.Nat.{ℕ, ◌+◌, ◌*◌, ◌/◌, ◌%◌, ◌<◌}
use mathlib.Core.Path.{◌≡◌, ap, ◌∙◌}
use mir.Facts.{Fits-below}
use Rattle.answer.specs.Outcome.{done, next, none, place_outcome}
use Rattle.answer.proofs.Promised.{sound-done}
use Rattle.layout.specs.Layout.{byte_limit, pixel_of, byte_of, sample_index, plain_index}
use Rattle.layout.proofs.Accepted.{up_to_eight}
use Rattle.layout.proofs.Sizes.{bytes-few}
use Rattle.layout.proofs.Whole.{record_accepted}
use Rattle.layout.proofs.Placed.{stride_some, sample-place, sample-inside, scratch_limited}
use Rattle.layout.proofs.source.plain_index.Goals.{After-byte_place, Start}
use Rattle.layout.proofs.source.plain_index.Goals as goal

some : (c : Start) → 0 < c.args.l.fields.bytes
some c =
    (up_to_eight (record_accepted c.args.l c.requires.0.sound).bytes).0

-- its place is there
place_is : (c : After-byte_place) → 0 < c.args.l.fields.bytes → let sample : ℕ = let l = c.args.l in sample_index l (pixel_of l c.args.k) (byte_of l c.args.k / l.fields.bytes) in place_outcome c.byte_place.result ≡ done (sample * c.args.l.fields.bytes)
place_is c some =
    let sample : ℕ = let l = c.args.l in sample_index l (pixel_of l c.args.k) (byte_of l c.args.k / l.fields.bytes) in
    let l = c.args.l in
    let which : c.sample_of-sample.result.0 ≡ sample = rw c.high_first-c.ensures at c.sample_of-sample.ensures in
    let fits = next (ne_eqb l.fields.bytes 0 (λ e. omega (arith, some))) (next (le-ltb l.scratch_len ((sample + 1) * l.fields.bytes) (sample-inside l c.requires.0.sound c.args.k c.requires.1 c.requires.0.within)) none) in
    (rw which at c.byte_place.ensures) ∙ sound-done (sample * l.fields.bytes) fits

pub overflow_mul-stride : goal.overflow_mul-stride
overflow_mul-stride c =
    Fits-below tt (bytes-few c.args.l.fields (record_accepted c.args.l c.requires.0.sound))

pub nonzero_rem-k : goal.nonzero_rem-k
nonzero_rem-k c =
    stride_some c.args.l c.requires.0.sound

pub nonzero_div-k : goal.nonzero_div-k
nonzero_div-k c =
    stride_some c.args.l c.requires.0.sound

pub sample_of-sample-requires : goal.sample_of-sample-requires
sample_of-sample-requires c =
    let sample : ℕ = let l = c.args.l in sample_index l (pixel_of l c.args.k) (byte_of l c.args.k / l.fields.bytes) in
    let sample_limited : sample < byte_limit = let l = c.args.l in
    omega (arith, sample-inside l c.requires.0.sound c.args.k c.requires.1 c.requires.0.within, scratch_limited l c.requires.0.sound, le-mul_of_pos_right {m = l.fields.bytes} (sample + 1) (some (goal.at.sample_of-sample-requires c).Start), mul_comm (sample + 1) l.fields.bytes) in
    record { some = some (goal.at.sample_of-sample-requires c).Start; limited = rw c.high_first-c.ensures (omega (arith, sample_limited)) }

pub returns-in-Ok : goal.returns-in-Ok
returns-in-Ok c =
    let sample : ℕ = let l = c.args.l in sample_index l (pixel_of l c.args.k) (byte_of l c.args.k / l.fields.bytes) in
    let answered : let l = c.args.l in c.in-Ok.at.0 + c.high_first-c.result % l.fields.bytes ≡ plain_index l c.args.k = let l = c.args.l in
    let told = ap place_outcome c.in-Ok.is in
    let is = place_is (goal.at.returns-in-Ok c).After-byte_place (some (goal.at.returns-in-Ok c).Start) in
    let here : c.in-Ok.at.0 ≡ sample * l.fields.bytes = cc in
    rw (here, c.high_first-c.ensures) (sample-place l c.requires.0.sound c.args.k c.requires.1 c.requires.0.within) in
    answered

pub returns-in-Err : goal.returns-in-Err
returns-in-Err c =
    let told = ap place_outcome c.in-Err.is in let is = place_is (goal.at.returns-in-Err c).After-byte_place (some (goal.at.returns-in-Err c).Start) in absurd (let z : ◌≡◌ {A = ℕ} 0 1 = cc in omega arith)
