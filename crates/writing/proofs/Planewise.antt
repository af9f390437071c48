-- Planes one after another: what stands in a plane, and the loop over the planes. Assumes nothing.
use Prim.Native.Nat.{ℕ, ◌+◌, ◌-◌, ◌*◌, ◌/◌, ◌%◌, ◌≤◌, ◌<◌}
use mathlib.Core.Path.{◌≡◌, refl, sym, ap, ◌∙◌}
use mathlib.Core.Bool.{Bool, true, false, not, ◌&&◌, ◌||◌}
use mathlib.Core.List.{List, ◌++◌}
use native.Mathlib.Nat.{add-zero, zero-mul, add-mul, one-mul, mul-one, div-one, mod-lt, div-add-mod', div-lt_iff_lt-mul, mul-mod_left, mul-le-mul_right}
use native.Mathlib.Omega.{arith}
use borrow.Author.Tests.{eqb-false}
use lib.ListN.{length, get_or, take, drop}
use lib.Dec.{eqb}
use Rattle.answer.specs.Outcome.{Sound}
use Rattle.answer.specs.Table.{table, filled}
use Rattle.answer.proofs.Filling.{table_at, table_same, length-table, part, length_part, part_filled, length-filled}
use Rattle.layout.specs.declared.RasterLayout.{RasterLayout}
use Rattle.layout.specs.Layout.{byte_limit, record_faults, packed, high_first}
use Rattle.laws.proofs.Says.{clash, refuted, up, down, both}
use Rattle.layout.proofs.Accepted.{up_to_eight, alpha_bytes, mapped_together}
use Rattle.layout.proofs.Whole.{record_accepted}
use Rattle.layout.proofs.Sizes.{bytes-few}
use Rattle.layout.proofs.Placed.{output_is, scratch_limited}
use Rattle.pixels.specs.Render.{flipped}
use Rattle.pixels.specs.Finish.{Inverted}
use Rattle.pixels.specs.Planes.{flips_channel, place_index, flips, written}
use Rattle.pixels.proofs.Places.{plane_is, apart-place}
use Rattle.laws.proofs.Groups.{group_of, item_of}
use Rattle.laws.proofs.Picks.{not_picked}
use Rattle.writing.specs.Parts.{planar, channel_at, ChannelFits, ChannelInto, PlaneOf, PlaneWritten, Apart, WrittenInto}
use Rattle.pixels.proofs.HighFirst.{one_or_two, high_first_in}

module _ (l : RasterLayout) (s : Sound (record_faults l)) (narrow : eqb l.fields.bytes 8 ≡ false) (apart : planar l ≡ true) where
  separated : (l.fields.separate ≡ true) × (eqb l.fields.slots 8 ≡ false)
  separated = (both (up l.fields.separate) (down (eqb l.fields.slots 8))).tells apart

  plain : packed l ≡ false
  plain =
      let bare : l.fields.palette ≡ false = sym (refuted (up l.fields.palette) (λ p. clash separated.0 (mapped_together (record_accepted l s) p))) in
      rw (bare, separated.1)

  bytes-some : 0 < l.fields.bytes
  bytes-some = (up_to_eight (record_accepted l s).bytes).0

  plane : l.plane_len ≡ l.fields.w * l.fields.h * l.fields.bytes
  plane = (plane_is l s plain separated.0).0

  -- a plane has its channel of each pixel
  plane_pixels : (l.plane_len % l.fields.bytes ≡ 0) × (l.plane_len / l.fields.bytes ≡ l.fields.w * l.fields.h)
  plane_pixels =
      (ap (λ (n : ℕ). n % l.fields.bytes) plane ∙ mul-mod_left (l.fields.w * l.fields.h) l.fields.bytes, ap (λ (n : ℕ). n / l.fields.bytes) plane ∙ rw add-zero at (group_of (l.fields.w * l.fields.h) l.fields.bytes {b = 0} bytes-some))

  module _ (picture : List ℕ) (c : ℕ) (channel : c < l.fields.ch) where
    place_of : (j : ℕ) → j < l.plane_len → place_index l (c * l.plane_len + j) ≡ c * l.fields.bytes + j / l.fields.bytes * (l.fields.ch * l.fields.bytes) + high_first l.fields.bytes l.fields.le (j % l.fields.bytes)
    place_of j h =
        let p = j / l.fields.bytes in
        let b = j % l.fields.bytes in
        let byte : b < l.fields.bytes = mod-lt j bytes-some in
        let pixel : p < l.fields.w * l.fields.h = (div-lt_iff_lt-mul bytes-some).1 (omega (arith, plane)) in
        ap (λ (n : ℕ). place_index l (c * l.plane_len + n)) (sym (div-add-mod' j l.fields.bytes))
        ∙ apart-place l s plain separated.0 p c b pixel channel byte
        ∙ ap (λ (n : ℕ). p * (l.fields.ch * l.fields.bytes) + n) (high_first_in l.fields.bytes (one_or_two l s narrow) l.fields.le c b)
        ∙ omega arith

    -- white flips all of a plane or none of it
    over_plane : (j : ℕ) → j < l.plane_len → flips l (place_index l (c * l.plane_len + j)) ≡ flips_channel l c
    unfolding high_first
    over_plane j h = by (eqb l.fields.alpha 0) refl
      where
        by : (b : Bool) → eqb l.fields.alpha 0 ≡ b → (l.fields.white && (b || not (eqb (place_index l (c * l.plane_len + j) % l.fields.ch) (l.fields.ch - 1)))) ≡ (l.fields.white && (b || not (eqb c (l.fields.ch - 1))))
        by true e = refl
        by false e =
            let one : l.fields.bytes ≡ 1 = alpha_bytes (record_accepted l s) (eqb-false l.fields.alpha 0 e) in
            let here : place_index l (c * l.plane_len + j) ≡ j * l.fields.ch + c = place_of j h ∙ rw one (rw (mul-one l.fields.ch, div-one j) (omega arith)) in
            rw (here, item_of j l.fields.ch channel)

    plane_byte : (j : ℕ) → j < l.plane_len → written l picture (c * l.plane_len + j) ≡ flipped (flips_channel l c) (channel_at picture (c * l.fields.bytes) (l.fields.ch * l.fields.bytes) l.fields.bytes l.fields.le j)
    unfolding written
    plane_byte j h =
        not_picked _ _ separated.1
        ∙ ap (λ (b : Bool). flipped b (get_or picture (place_index l (c * l.plane_len + j)) 0)) (over_plane j h)
        ∙ ap (λ (k : ℕ). flipped (flips_channel l c) (get_or picture k 0)) (place_of j h)

    module _ (all : l.output_len ≤ length picture) (old : List ℕ) (room : length old ≡ l.plane_len) where
      pub channel-fits : ChannelFits picture (c * l.fields.bytes) (l.fields.ch * l.fields.bytes) l.fields.bytes old
      channel-fits =
          let rows : (c + 1) * l.fields.bytes ≤ l.fields.ch * l.fields.bytes = mul-le-mul_right l.fields.bytes (omega arith) in
          record {
            inside = omega (arith, add-mul c 1 l.fields.bytes, one-mul l.fields.bytes);
            words = rw room plane_pixels.0;
            pixels = rw (room, plane_pixels.1) (omega (arith, output_is l s));
            limited = bytes-few l.fields (record_accepted l s);
          }

      module _ (mid : List ℕ) (p : ChannelInto picture (c * l.fields.bytes) (l.fields.ch * l.fields.bytes) l.fields.bytes l.fields.le old mid) where
        pub plane_kept : flips_channel l c ≡ false → PlaneWritten l picture c old mid
        plane_kept e = p ∙ table_same (length old) _ _ (λ j h. sym (plane_byte j (omega arith) ∙ rw e))

        pub plane_over : flips_channel l c ≡ true → (new : List ℕ) → Inverted mid new → PlaneWritten l picture c old new
        plane_over e new q =
            let f = channel_at picture (c * l.fields.bytes) (l.fields.ch * l.fields.bytes) l.fields.bytes l.fields.le in
            let long : length mid ≡ length old = ap length p ∙ length-table (length old) f in
            q
            ∙ ap (λ (n : ℕ). table n (λ k. 255 - get_or mid k 0)) long
            ∙ table_same (length old) _ _ (λ j h. ap (λ (m : List ℕ). 255 - get_or m j 0) p ∙ ap (λ (v : ℕ). 255 - v) (table_at (length old) f j h) ∙ sym (plane_byte j (omega arith) ∙ rw e))

-- the loop over the planes
pub record Planewise (l : RasterLayout) (picture old : List ℕ) (c : ℕ) (out : List ℕ) : Type 0 where
  pub inside : c ≤ l.fields.ch
  pub same : length out ≡ length old
  pub so_far : out ≡ filled (c * l.plane_len) (written l picture) old

pub planes-none : (l : RasterLayout) (picture old : List ℕ) → Planewise l picture old 0 old
planes-none l picture old = record { inside = omega arith; same = refl; so_far = rw (zero-mul l.plane_len) }

module _ {l : RasterLayout} {picture old : List ℕ} {c : ℕ} {out : List ℕ} (fits : Apart l picture old) (is : Planewise l picture old c out) where
  scratch : l.scratch_len ≡ l.fields.ch * l.plane_len
  scratch = (plane_is l fits.served.sound (plain l fits.served.sound fits.served.narrow fits.apart) (separated l fits.served.sound fits.served.narrow fits.apart).0).1

  module _ (more : c < l.fields.ch) where
    pub plane_room : (c * l.plane_len + l.plane_len ≤ length old) × (c * l.plane_len + l.plane_len ≤ byte_limit)
    plane_room =
        let upto : (c + 1) * l.plane_len ≤ l.fields.ch * l.plane_len = mul-le-mul_right l.plane_len (omega arith) in
        let end : c * l.plane_len + l.plane_len ≤ l.scratch_len = omega (arith, add-mul c 1 l.plane_len, one-mul l.plane_len, scratch) in
        (omega (arith, fits.served.room), omega (arith, scratch_limited l fits.served.sound))

    pub plane_fits : (k : ℕ) → k < l.fields.ch → PlaneOf l picture k (part (c * l.plane_len) (c * l.plane_len + l.plane_len) out)
    plane_fits k channel =
        record {
          sound = fits.served.sound;
          narrow = fits.served.narrow;
          all = fits.served.all;
          apart = fits.apart;
          channel = channel;
          room = length_part (c * l.plane_len) (c * l.plane_len + l.plane_len) out (omega arith) (omega (arith, plane_room.0, is.same)) ∙ omega arith;
        }

    pub plane_next : (new : List ℕ) → PlaneWritten l picture c (part (c * l.plane_len) (c * l.plane_len + l.plane_len) out) new → Planewise l picture old (c + 1) (take (c * l.plane_len) out ++ (new ++ drop (c * l.plane_len + l.plane_len - c * l.plane_len) (drop (c * l.plane_len) out)))
    plane_next new p =
        let start = c * l.plane_len in
        let long : length (part start (start + l.plane_len) out) ≡ start + l.plane_len - start = (plane_fits c more).room ∙ omega arith in
        let all : new ≡ table (start + l.plane_len - start) (λ k. written l picture (start + k)) = p ∙ rw long in
        let next : start + l.plane_len ≡ (c + 1) * l.plane_len = omega (arith, add-mul c 1 l.plane_len, one-mul l.plane_len) in
        let now = part_filled (written l picture) start (start + l.plane_len) old out new (omega arith) is.so_far all ∙ ap (λ (n : ℕ). filled n (written l picture) old) next in
        record { inside = omega arith; same = ap length now ∙ length-filled ((c + 1) * l.plane_len) (written l picture) old (omega (arith, plane_room.0)); so_far = now }

  pub planes_ended : l.fields.ch ≤ c → WrittenInto l picture old out
  planes_ended end =
      let all : c ≡ l.fields.ch = omega (arith, is.inside) in
      let whole : c * l.plane_len ≡ l.scratch_len = ap (λ (n : ℕ). n * l.plane_len) all ∙ sym scratch in
      rw whole at is.so_far
