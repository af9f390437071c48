-- What the three steps have shown of a layout, as plain facts, and that these facts are all they ask. Assumes nothing.
use Prim.Native.Nat.{ℕ, ◌≤◌, ◌<◌}
use mathlib.Core.Path.{◌≡◌, sym}
use mathlib.Core.Bool.{true, false}
use mathlib.Core.Logic.{◌⊎◌, inl, inr, ⊎_elim}
use native.Mathlib.Omega.{arith}
use borrow.Author.Tests.{eqb-false, ltb-false, le-ltb, ne_eqb, not-false}
use Rattle.answer.specs.Outcome.{Sound, next, none}
use Rattle.layout.specs.declared.Fields.{Fields}
use Rattle.layout.specs.declared.RasterLayout.{RasterLayout}
use Rattle.layout.specs.Layout.{served_faults, layout_faults, agreement, one_two_eight, eight_rule, alpha_rule, palette_rule, slots_rule, side_limit, byte_limit, output_length}
use Rattle.laws.proofs.Says.{Says, clash, held, refuted, equal, up, down, both, either, whenever, or_else, restated}

abbrev pub OneTwoEight : ℕ → Type 0
OneTwoEight n = ((n ≡ 1) ⊎ (n ≡ 2)) ⊎ (n ≡ 8)

pub one_two_eight_lem : (n : ℕ) → Says (one_two_eight n) (OneTwoEight n)
one_two_eight_lem n = either (either (equal n 1) (equal n 2)) (equal n 8)

pub up_to_eight : {n : ℕ} → OneTwoEight n → (0 < n) × (n ≤ 8)
up_to_eight (inl (inl e)) = omega arith
up_to_eight (inl (inr e)) = omega arith
up_to_eight (inr e) = omega arith

-- what step 1 has shown of the bytes of a pixel
pub served-few : (f : Fields) → Sound (served_faults f) → (f.ch ≤ 4) × (f.bytes ≤ 8)
served-few f (next bytes (next none_ch (next many rest))) =
    (ltb-false 4 f.ch many, (up_to_eight ((one_two_eight_lem f.bytes).tells (not-false _ bytes))).1)

-- step 2's rules as facts
abbrev pub EightRule : Fields → Type 0
EightRule f = f.bytes ≡ 8 → ((((f.white ≡ false) × (f.palette ≡ false)) × (f.alpha ≡ 0)) × (f.slots ≡ 1)) × ((f.ch ≡ 1) ⊎ (f.ch ≡ 3))

abbrev pub AlphaRule : Fields → Type 0
AlphaRule f = (f.alpha ≡ 0 → ⊥) → ((f.bytes ≡ 1) × ((f.ch ≡ 2) ⊎ (f.ch ≡ 4))) × (f.palette ≡ false)

abbrev pub PaletteRule : Fields → Type 0
PaletteRule f = f.palette ≡ true → ((((f.ch ≡ 3) × (f.bytes ≡ 1)) × OneTwoEight f.slots) × (f.separate ≡ false)) × (f.alpha ≡ 0)

abbrev pub SlotsRule : Fields → Type 0
SlotsRule f = f.palette ≡ false → (f.slots ≡ 1) ⊎ ((((f.slots ≡ 8) × (f.ch ≡ 1)) × (f.bytes ≡ 1)) × (f.alpha ≡ 0))

module _ (f : Fields) where
  pub eight_rule_lem : Says (eight_rule f) (EightRule f)
  unfolding eight_rule
  eight_rule_lem = whenever (equal f.bytes 8) (both (both (both (both (down f.white) (down f.palette)) (equal f.alpha 0)) (equal f.slots 1)) (either (equal f.ch 1) (equal f.ch 3)))

  pub alpha_rule_lem : Says (alpha_rule f) (AlphaRule f)
  unfolding alpha_rule
  alpha_rule_lem = or_else (equal f.alpha 0) (both (both (equal f.bytes 1) (either (equal f.ch 2) (equal f.ch 4))) (down f.palette))

  pub palette_rule_lem : Says (palette_rule f) (PaletteRule f)
  unfolding palette_rule
  palette_rule_lem = whenever (up f.palette) (both (both (both (both (equal f.ch 3) (equal f.bytes 1)) (one_two_eight_lem f.slots)) (down f.separate)) (equal f.alpha 0))

  pub slots_rule_lem : Says (slots_rule f) (SlotsRule f)
  unfolding slots_rule
  slots_rule_lem =
      restated
      (or_else (up f.palette) (either (equal f.slots 1) (both (both (both (equal f.slots 8) (equal f.ch 1)) (equal f.bytes 1)) (equal f.alpha 0))))
      (λ q e. q (λ p. clash p e))
      (λ q n. q (sym (refuted (up f.palette) n)))

pub record Accepted (f : Fields) : Type 0 where
  pub bytes : OneTwoEight f.bytes
  pub some : 0 < f.ch
  pub few : f.ch ≤ 4
  pub slots : OneTwoEight f.slots
  pub alpha : f.alpha ≤ 2
  pub wide : 0 < f.w
  pub high : 0 < f.h
  pub eight : EightRule f
  pub covered : AlphaRule f
  pub mapped : PaletteRule f
  pub shared : SlotsRule f
  pub width : f.w ≤ side_limit
  pub height : f.h ≤ side_limit
  pub size : output_length f ≤ byte_limit

pub accepted : (f : Fields) → Sound (layout_faults f) → Accepted f
accepted f (next bytes (next none_ch (next many (next slots (next alpha (next no_w (next no_h (next eight (next covered (next mapped (next shared (next width (next height (next size none)))))))))))))) =
    record {
      bytes = (one_two_eight_lem f.bytes).tells (not-false _ bytes);
      some = omega (arith, eqb-false f.ch 0 none_ch);
      few = ltb-false 4 f.ch many;
      slots = (one_two_eight_lem f.slots).tells (not-false _ slots);
      alpha = ltb-false 2 f.alpha alpha;
      wide = omega (arith, eqb-false f.w 0 no_w);
      high = omega (arith, eqb-false f.h 0 no_h);
      eight = (eight_rule_lem f).tells (not-false _ eight);
      covered = (alpha_rule_lem f).tells (not-false _ covered);
      mapped = (palette_rule_lem f).tells (not-false _ mapped);
      shared = (slots_rule_lem f).tells (not-false _ shared);
      width = ltb-false side_limit f.w width;
      height = ltb-false side_limit f.h height;
      size = ltb-false byte_limit (output_length f) size;
    }

pub all_asked : (f : Fields) → Accepted f → Sound (layout_faults f)
all_asked f a =
    next (held ((one_two_eight_lem f.bytes).told a.bytes))
    (next (ne_eqb f.ch 0 (omega arith))
    (next (le-ltb 4 f.ch a.few)
    (next (held ((one_two_eight_lem f.slots).told a.slots))
    (next (le-ltb 2 f.alpha a.alpha)
    (next (ne_eqb f.w 0 (omega arith))
    (next (ne_eqb f.h 0 (omega arith))
    (next (held ((eight_rule_lem f).told a.eight))
    (next (held ((alpha_rule_lem f).told a.covered))
    (next (held ((palette_rule_lem f).told a.mapped))
    (next (held ((slots_rule_lem f).told a.shared))
    (next (le-ltb side_limit f.w a.width)
    (next (le-ltb side_limit f.h a.height)
    (next (le-ltb byte_limit (output_length f) a.size) none)))))))))))))

-- what the rules come to together
module _ {f : Fields} (a : Accepted f) where
  -- several samples in a byte without a palette are a bilevel picture's
  pub bilevel : f.palette ≡ false → f.slots ≡ 8 → ((f.ch ≡ 1) × (f.bytes ≡ 1)) × (f.alpha ≡ 0)
  bilevel p e = ⊎_elim (λ one. absurd (omega arith)) (λ q. ((q.0.0.1, q.0.1), q.1)) (a.shared p)

  -- a palette
  pub mapped_together : f.palette ≡ true → f.separate ≡ false
  mapped_together p = (a.mapped p).0.1

  -- beside alpha each sample is a byte
  pub alpha_bytes : (f.alpha ≡ 0 → ⊥) → f.bytes ≡ 1
  alpha_bytes n = (a.covered n).0.0

-- the fields that follow, compared
pub record Agreement (l right : RasterLayout) : Type 0 where
  pub encoded_width_lem : l.encoded_width ≡ right.encoded_width
  pub plane_channels_lem : l.plane_channels ≡ right.plane_channels
  pub planes : l.planes ≡ right.planes
  pub plane_length_lem : l.plane_len ≡ right.plane_len
  pub scratch_length_lem : l.scratch_len ≡ right.scratch_len
  pub output_length_lem : l.output_len ≡ right.output_len
  pub colours : l.colors ≡ right.colors

pub agrees : (l right : RasterLayout) → Says (agreement l right) (Agreement l right)
unfolding agreement
agrees l right =
    let row = equal l.encoded_width right.encoded_width in
    let place = equal l.plane_channels right.plane_channels in
    let number = equal l.planes right.planes in
    let plane = equal l.plane_len right.plane_len in
    let scratch = equal l.scratch_len right.scratch_len in
    let output = equal l.output_len right.output_len in
    let colour = equal l.colors right.colors in
    restated (both (both (both (both (both (both row place) number) plane) scratch) output) colour)
    (λ a. record {
      encoded_width_lem = a.0.0.0.0.0.0;
      plane_channels_lem = a.0.0.0.0.0.1;
      planes = a.0.0.0.0.1;
      plane_length_lem = a.0.0.0.1;
      scratch_length_lem = a.0.0.1;
      output_length_lem = a.0.1;
      colours = a.1;
    })
    (λ a. ((((((a.encoded_width_lem, a.plane_channels_lem), a.planes), a.plane_length_lem), a.scratch_length_lem), a.output_length_lem), a.colours))
