-- The loop over pixels whose last byte is their alpha: its invariant, how a pixel keeps it, and what it comes to. Assumes nothing.
use Prim.Native.Nat.{ℕ, ◌+◌, ◌-◌, ◌*◌, ◌/◌, ◌≤◌, ◌<◌}
use mathlib.Core.Path.{◌≡◌, refl, ap, ◌∙◌}
use mathlib.Core.Bool.{Bool, true}
use mathlib.Core.List.{List}
use native.Mathlib.Nat.{zero-mul, add-mul, one-mul, div-mul-le_self, div-add-mod', mul-le-mul_right}
use native.Mathlib.Omega.{arith}
use borrow.Author.Tests.{eq-eqb, ne_eqb}
use lib.ListN.{length, get_or}
use Rattle.answer.specs.Table.{filled}
use Rattle.answer.proofs.Filling.{length-filled, filled_keep, filled_rest, stores-filled}
use Rattle.laws.proofs.Groups.{item_of}
use Rattle.pixels.specs.Render.{straight_colour}
use Rattle.pixels.specs.Finish.{share_of, straight_at, PixelGiven, WholePixels, PixelStraightened, PixelsStraightened}

pub record Straight (old : List ℕ) (channels : ℕ) (multiplied white : Bool) (p : ℕ) (s : List ℕ) : Type 0 where
  pub inside : p ≤ length old / channels
  pub same : length s ≡ length old
  pub so_far : s ≡ filled (p * channels) (straight_at old channels multiplied white) old

pub straight_start : (old : List ℕ) (channels : ℕ) (multiplied white : Bool) → Straight old channels multiplied white 0 old
straight_start old channels multiplied white = record { inside = omega arith; same = refl; so_far = rw (zero-mul channels) }

module _ {old : List ℕ} {channels : ℕ} {multiplied white : Bool} {p : ℕ} {s : List ℕ} (whole : WholePixels old channels) (is : Straight old channels multiplied white p s) where
  module _ (more : p < length old / channels) where
    pub pixel_room : p * channels + channels ≤ length s
    pixel_room =
        let upto : (p + 1) * channels ≤ length old / channels * channels = mul-le-mul_right channels (omega arith) in
        omega (arith, upto, div-mul-le_self (length old) channels, add-mul p 1 channels, one-mul channels, is.same)

    -- what a pixel's share has to be for the pixel to be made straight
    pub pixel_given : (share : ℕ) → (multiplied ≡ true → share ≡ share_of (get_or s (p * channels + (channels - 1)) 0)) → PixelGiven s (p * channels) (channels - 1) multiplied share
    pixel_given share known = record { room = omega (arith, pixel_room, whole.some); known = known }

    pub pixel_turned : (new : List ℕ) → PixelStraightened s (p * channels) (channels - 1) multiplied white new → Straight old channels multiplied white (p + 1) new
    pixel_turned new e =
        let last = channels - 1 in
        let at = p * channels in
        let some = whole.some in
        let room : at + channels ≤ length old = omega (arith, pixel_room, is.same) in
        let f = straight_at old channels multiplied white in
        let unread : (c : ℕ) → get_or s (at + c) 0 ≡ get_or old (at + c) 0 = λ c. ap (λ (l : List ℕ). get_or l (at + c) 0) is.so_far ∙ filled_rest at f old (at + c) (omega arith) in
        let colours : (c : ℕ) → c < last → straight_colour multiplied white (get_or s (at + c) 0) (get_or s (at + last) 0) ≡ f (at + c) =
        λ c h.
        let alpha : at + c - c + channels - 1 ≡ at + last = omega arith in
        rw (unread c, unread last, item_of p channels {b = c} (omega arith), ne_eqb c last (omega arith), alpha) in
        let alpha : get_or old (at + last) 0 ≡ f (at + last) = rw (item_of p channels {b = last} (omega arith), eq-eqb last last refl) in
        let end : at + last + 1 ≡ (p + 1) * channels = omega (arith, add-mul p 1 channels, one-mul channels) in
        let now : new ≡ filled ((p + 1) * channels) f old =
        e ∙ stores-filled f (λ c. straight_colour multiplied white (get_or s (at + c) 0) (get_or s (at + last) 0)) old s at last colours (omega arith) is.so_far ∙ filled_keep (at + last) f old (omega arith) alpha ∙ ap (λ (n : ℕ). filled n f old) end in
        record { inside = omega arith; same = ap length now ∙ length-filled ((p + 1) * channels) f old (omega (arith, room)); so_far = now }

  pub straight_end : length old / channels ≤ p → PixelsStraightened old channels multiplied white s
  straight_end l =
      let last : p ≡ length old / channels = omega (arith, is.inside) in
      let all : p * channels ≡ length old = rw last (omega (arith, div-add-mod' (length old) channels, whole.whole)) in rw all at is.so_far
