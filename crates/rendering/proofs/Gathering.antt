-- A row of pixels whose channels stand in planes of their own: the loop over a pixel's channels and the loop over the pixels. Assumes nothing.
use Prim.Native.Nat.{ℕ, ◌+◌, ◌-◌, ◌*◌, ◌/◌, ◌≤◌, ◌<◌}
use mathlib.Core.Path.{◌≡◌, refl, sym, ap, ◌∙◌}
use mathlib.Core.Bool.{Bool}
use mathlib.Core.List.{List, ◌++◌}
use native.Mathlib.Nat.{zero-mul, add-mul, one-mul, mul-pos, mod_self, div-add-mod', div-mul-le_self, mul-le-mul_right}
use native.Mathlib.Omega.{arith}
use lib.ListN.{length, get_or, take, drop}
use Rattle.answer.specs.Outcome.{pick}
use borrow.Author.Tests.{lt-ltb, le-ltb}
use lib.Dec.{ltb}
use Rattle.answer.specs.Table.{table, filled, stores}
use Rattle.answer.proofs.Filling.{length-stores, stores-on, stores-filled, length-filled, filled-all, filled_already, part_filled, table_same}
use Rattle.laws.proofs.Lists.{own_front}
use Rattle.laws.proofs.Groups.{group_of, item_of}
use Rattle.layout.specs.Layout.{byte_limit, high_first}
use Rattle.pixels.proofs.HighFirst.{some_bytes, high_first_in, high_first_below}
use Rattle.pixels.specs.Render.{OneOrTwo, WordAt}
use Rattle.rendering.specs.Rows.{plane_place, planes_at, PixelFits, PixelGathered, PlanesFit, PlanesInto}

-- a part of a buffer that became a table, as its stores
stores_part : (out : List ℕ) (at n : ℕ) (g : ℕ → ℕ) (new : List ℕ) → at + n ≤ length out → new ≡ table n g → take at out ++ (new ++ drop (at + n - at) (drop at out)) ≡ stores out at n g
stores_part out at n g new room is =
    let f : ℕ → ℕ = λ k. pick (ltb k at) (get_or out k 0) (g (k - at)) in
    let before : table at f ≡ take at out = table_same at f (λ k. get_or out k 0) (λ k h. rw (lt-ltb k at h)) ∙ own_front at out (omega arith) in
    let within : (k : ℕ) → g k ≡ f (at + k) = λ k. let one : at + k - at ≡ k = omega arith in rw (le-ltb (at + k) at (omega arith), one) in
    let size : n ≡ at + n - at = omega arith in
    let read : new ≡ table (at + n - at) (λ k. f (at + k)) = is ∙ table_same n g (λ k. f (at + k)) (λ k h. within k) ∙ ap (λ (m : ℕ). table m (λ k. f (at + k))) size in
    let already : out ≡ filled at f out = sym (filled_already at f out (sym before)) in
    part_filled f at (at + n) out out new (omega arith) already read ∙ sym (stores-filled f g out out at n (λ p h. within p) room already)

-- the loop over the channels of a pixel
pub record GatheredChannels (raw : List ℕ) (plane_length place channels bytes : ℕ) (le : Bool) (at : ℕ) (old : List ℕ) (c : ℕ) (out : List ℕ) : Type 0 where
  pub inside : c ≤ channels
  pub same : length out ≡ length old
  pub so_far : out ≡ stores old at (c * bytes) (λ k. get_or raw (plane_place plane_length place bytes le k) 0)

pub gathered_no_channel : (raw : List ℕ) (plane_length place channels bytes : ℕ) (le : Bool) (at : ℕ) (old : List ℕ) → GatheredChannels raw plane_length place channels bytes le at old 0 old
gathered_no_channel raw plane_length place channels bytes le at old =
    record { inside = omega arith; same = refl; so_far = rw (zero-mul bytes) }

-- a channel's bytes lie in the planes, and have room
pub record ChannelRoom (raw : List ℕ) (plane_length place bytes at c : ℕ) (out : List ℕ) : Type 0 where
  pub planes : place + c * plane_length + bytes ≤ length raw
  pub limited : place + c * plane_length ≤ 2 * byte_limit
  pub room : at + c * bytes + bytes ≤ length out

module _ {raw : List ℕ} {plane_length place channels bytes : ℕ} {le : Bool} {at : ℕ} {old : List ℕ} {c : ℕ} {out : List ℕ} (fits : PixelFits raw plane_length place channels bytes at old) (is : GatheredChannels raw plane_length place channels bytes le at old c out) where
  pub channel-room : c < channels → ChannelRoom raw plane_length place bytes at c out
  channel-room more =
      let plane : (c + 1) * plane_length ≤ channels * plane_length = mul-le-mul_right plane_length (omega arith) in
      let room : (c + 1) * bytes ≤ channels * bytes = mul-le-mul_right bytes (omega arith) in
      let planes = add-mul c 1 plane_length in
      let rooms = add-mul c 1 bytes in
      let one = one-mul plane_length in
      let one_byte = one-mul bytes in
      record { planes = omega (arith, fits.inside, fits.planes); limited = omega (arith, fits.inside, fits.limited); room = omega (arith, is.same, fits.room) }

  pub channel-next : OneOrTwo bytes → c < channels → (word : List ℕ) → WordAt raw (place + c * plane_length) bytes le word → GatheredChannels raw plane_length place channels bytes le at old (c + 1) (take (at + c * bytes) out ++ (word ++ drop (at + c * bytes + bytes - (at + c * bytes)) (drop (at + c * bytes) out)))
  channel-next width more word read =
      let to = at + c * bytes in
      let g : ℕ → ℕ = λ k. get_or raw (plane_place plane_length place bytes le k) 0 in
      let h : ℕ → ℕ = λ b. get_or raw (place + c * plane_length + high_first bytes le b) 0 in
      let agree : (p : ℕ) → p < bytes → h p ≡ g (c * bytes + p) =
      λ p l.
      let below : high_first bytes le p < bytes = high_first_below bytes width le bytes p (mod_self bytes) l in
      rw (high_first_in bytes width le c p, group_of c bytes below, item_of c bytes below) (ap (λ (n : ℕ). get_or raw n 0) (omega arith)) in
      let next : c * bytes + bytes ≡ (c + 1) * bytes = omega (arith, add-mul c 1 bytes, one-mul bytes) in
      let put : take to out ++ (word ++ drop (to + bytes - to) (drop to out)) ≡ stores out to bytes h = stores_part out to bytes h word (channel-room more).room read in
      let now = put ∙ ap (λ (l : List ℕ). stores l to bytes h) is.so_far ∙ stores-on old at (c * bytes) bytes g h agree ∙ ap (λ (n : ℕ). stores old at n g) next in
      record { inside = omega arith; same = ap length now ∙ length-stores old at ((c + 1) * bytes) g; so_far = now }

  pub channels_ended : channels ≤ c → PixelGathered raw plane_length place channels bytes le at old out
  channels_ended l = let all : c ≡ channels = omega (arith, is.inside) in rw all at is.so_far

-- the loop over the pixels of a row
pub record GatheredPixels (raw : List ℕ) (plane_length from channels bytes : ℕ) (le : Bool) (old : List ℕ) (p : ℕ) (out : List ℕ) : Type 0 where
  pub inside : p ≤ length old / (channels * bytes)
  pub same : length out ≡ length old
  pub so_far : out ≡ filled (p * (channels * bytes)) (planes_at raw plane_length from channels bytes le) old

pub gathered_no_pixel : (raw : List ℕ) (plane_length from channels bytes : ℕ) (le : Bool) (old : List ℕ) → GatheredPixels raw plane_length from channels bytes le old 0 old
gathered_no_pixel raw plane_length from channels bytes le old =
    record { inside = omega arith; same = refl; so_far = rw (zero-mul (channels * bytes)) }

module _ {raw : List ℕ} {plane_length from channels bytes : ℕ} {le : Bool} {old : List ℕ} {p : ℕ} {out : List ℕ} (fits : PlanesFit raw plane_length from channels bytes old) (is : GatheredPixels raw plane_length from channels bytes le old p out) where
  pub stride_some : 0 < channels * bytes
  stride_some = mul-pos fits.some (some_bytes fits.width)

  module _ (more : p < length old / (channels * bytes)) where
    pub pixel_room : p * (channels * bytes) + channels * bytes ≤ length old
    pixel_room =
        let upto : (p + 1) * (channels * bytes) ≤ length old / (channels * bytes) * (channels * bytes) = mul-le-mul_right (channels * bytes) (omega arith) in
        omega (arith, upto, div-mul-le_self (length old) (channels * bytes), add-mul p 1 (channels * bytes), one-mul (channels * bytes))

    pub pixel_inside : from + p * bytes + bytes ≤ plane_length
    pixel_inside =
        let all : (p + 1) * bytes ≤ length old / (channels * bytes) * bytes = mul-le-mul_right bytes (omega arith) in
        omega (arith, fits.inside, add-mul p 1 bytes, one-mul bytes)

    pub pixel_fits : PixelFits raw plane_length (from + p * bytes) channels bytes (p * (channels * bytes)) out
    pixel_fits = record { inside = pixel_inside; planes = fits.planes; limited = fits.limited; room = omega (arith, pixel_room, is.same) }

    pub pixel_next : (new : List ℕ) → PixelGathered raw plane_length (from + p * bytes) channels bytes le (p * (channels * bytes)) out new → GatheredPixels raw plane_length from channels bytes le old (p + 1) new
    pixel_next new e =
        let f = planes_at raw plane_length from channels bytes le in
        let stride = channels * bytes in
        let agree : (c : ℕ) → c < stride → get_or raw (plane_place plane_length (from + p * bytes) bytes le c) 0 ≡ f (p * stride + c) =
        λ c h. rw (group_of p stride h, item_of p stride h) in
        let next : p * stride + stride ≡ (p + 1) * stride = omega (arith, add-mul p 1 stride, one-mul stride) in
        let now = e ∙ stores-filled f _ old out (p * stride) stride agree pixel_room is.so_far ∙ ap (λ (n : ℕ). filled n f old) next in
        record { inside = omega arith; same = ap length now ∙ length-filled ((p + 1) * stride) f old (omega (arith, pixel_room)); so_far = now }

  pub gathered_all : length old / (channels * bytes) ≤ p → PlanesInto raw plane_length from channels bytes le old out
  gathered_all l =
      let last : p ≡ length old / (channels * bytes) = omega (arith, is.inside) in
      let all : p * (channels * bytes) ≡ length old = rw last (omega (arith, div-add-mod' (length old) (channels * bytes), fits.pixels)) in
      let f = planes_at raw plane_length from channels bytes le in
      is.so_far ∙ ap (λ (n : ℕ). filled n f old) all ∙ filled-all (length old) f old (omega arith)
