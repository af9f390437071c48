-- A plane filled with its channel of every pixel: the loop over the pixels. Assumes nothing.
use Prim.Native.Nat.{ℕ, ◌+◌, ◌-◌, ◌*◌, ◌/◌, ◌≤◌, ◌<◌}
use mathlib.Core.Path.{◌≡◌, refl, ap, ◌∙◌}
use mathlib.Core.Bool.{Bool}
use mathlib.Core.List.{List, ◌++◌}
use native.Mathlib.Nat.{zero-mul, add-mul, one-mul, div-add-mod', div-mul-le_self, mul-le-mul_right}
use native.Mathlib.Omega.{arith}
use lib.ListN.{length, take, drop}
use Rattle.answer.specs.Table.{table, filled}
use Rattle.answer.proofs.Filling.{table_same, part_filled, length-filled, filled-all}
use Rattle.laws.proofs.Groups.{group_of, item_of}
use Rattle.pixels.specs.Render.{WordAt}
use Rattle.writing.specs.Parts.{channel_at, ChannelFits, ChannelInto}

-- n pixels are done
pub record TakenPixels (picture : List ℕ) (first stride bytes : ℕ) (le : Bool) (old : List ℕ) (n : ℕ) (out : List ℕ) : Type 0 where
  pub inside : n ≤ length old / bytes
  pub same : length out ≡ length old
  pub so_far : out ≡ filled (n * bytes) (channel_at picture first stride bytes le) old

pub taken_none : (picture : List ℕ) (first stride bytes : ℕ) (le : Bool) (old : List ℕ) → TakenPixels picture first stride bytes le old 0 old
taken_none picture first stride bytes le old =
    record { inside = omega arith; same = refl; so_far = rw (zero-mul bytes) }

-- the pixel lies in the picture, and its channel has room
pub record PixelRoom (picture : List ℕ) (first stride bytes n : ℕ) (out : List ℕ) : Type 0 where
  pub room : n * bytes + bytes ≤ length out
  pub read : first + n * stride + bytes ≤ length picture
  pub next : n * stride + stride ≤ length picture

module _ {picture : List ℕ} {first stride bytes : ℕ} {le : Bool} {old : List ℕ} {n : ℕ} {out : List ℕ} (fits : ChannelFits picture first stride bytes old) (is : TakenPixels picture first stride bytes le old n out) where
  module _ (more : n < length old / bytes) where
    pub taken_room : PixelRoom picture first stride bytes n out
    taken_room =
        let upto : (n + 1) * bytes ≤ length old / bytes * bytes = mul-le-mul_right bytes (omega arith) in
        let all : (n + 1) * stride ≤ length old / bytes * stride = mul-le-mul_right stride (omega arith) in
        let pixels = fits.pixels in
        let within = fits.inside in
        let step = add-mul n 1 stride in
        let one = one-mul stride in
        record {
          room = omega (arith, upto, add-mul n 1 bytes, one-mul bytes, div-mul-le_self (length old) bytes, is.same);
          read = omega arith;
          next = omega arith;
        }

    pub taken_next : (word : List ℕ) → WordAt picture (first + n * stride) bytes le word → TakenPixels picture first stride bytes le old (n + 1) (take (n * bytes) out ++ (word ++ drop (n * bytes + bytes - n * bytes) (drop (n * bytes) out)))
    taken_next word read =
        let f = channel_at picture first stride bytes le in
        let at = n * bytes in
        let size : bytes ≡ at + bytes - at = omega arith in
        let all : word ≡ table (at + bytes - at) (λ k. f (at + k)) =
        read ∙ table_same bytes _ (λ k. f (at + k)) (λ p h. rw (group_of n bytes h, item_of n bytes h)) ∙ ap (λ (m : ℕ). table m (λ k. f (at + k))) size in
        let next : at + bytes ≡ (n + 1) * bytes = omega (arith, add-mul n 1 bytes, one-mul bytes) in
        let now = part_filled f at (at + bytes) old out word (omega arith) is.so_far all ∙ ap (λ (m : ℕ). filled m f old) next in
        record { inside = omega arith; same = ap length now ∙ length-filled ((n + 1) * bytes) f old (omega (arith, taken_room.room, is.same)); so_far = now }

  pub taken_all : length old / bytes ≤ n → ChannelInto picture first stride bytes le old out
  taken_all l =
      let last : n ≡ length old / bytes = omega (arith, is.inside) in
      let all : n * bytes ≡ length old = rw last (omega (arith, div-add-mod' (length old) bytes, fits.words)) in
      let f = channel_at picture first stride bytes le in
      is.so_far ∙ ap (λ (k : ℕ). filled k f old) all ∙ filled-all (length old) f old (omega arith)
