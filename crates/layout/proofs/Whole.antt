-- A record without a fault is the one that the check answers for what it says. Assumes nothing.
use Prim.Native.Nat.{ℕ}
use mathlib.Core.Path.{◌≡◌}
use mathlib.Core.List.{[], ◌∷◌}
use borrow.Author.Tests.{not-false}
use mathlib.Core.Bool.{not}
use Rattle.answer.specs.Outcome.{Sound, invalid}
use Rattle.answer.proofs.Promised.{sound-front, sound-here, sound_back}
use Rattle.layout.specs.declared.Fields.{Fields}
use Rattle.layout.specs.declared.RasterLayout.{RasterLayout}
use Rattle.layout.specs.Layout.{completed, agreement, layout_faults, record_faults}
use Rattle.layout.proofs.Accepted.{Accepted, accepted, Agreement, agrees}

-- a record of what a caller says, with these numbers for what follows
abbrev pub record_of : Fields → ℕ → ℕ → ℕ → ℕ → ℕ → ℕ → ℕ → RasterLayout
record_of f row place planes plane scratch output colours =
    record { fields = f; encoded_width = row; plane_channels = place; planes = planes; plane_len = plane; scratch_len = scratch; output_len = output; colors = colours }

same_numbers : (f : Fields) {a b c d e g h a' b' c' d' e' g' h' : ℕ} → a ≡ a' → b ≡ b' → c ≡ c' → d ≡ d' → e ≡ e' → g ≡ g' → h ≡ h' → record_of f a b c d e g h ≡ record_of f a' b' c' d' e' g' h'
same_numbers f p q r s t u v = rw (p, q, r, s, t, u, v)

pub agreed_whole : (l : RasterLayout) → Agreement l (completed l.fields) → l ≡ completed l.fields
agreed_whole l a =
    same_numbers l.fields a.encoded_width_lem a.plane_channels_lem a.planes a.plane_length_lem a.scratch_length_lem a.output_length_lem a.colours

module _ (l : RasterLayout) (s : Sound (record_faults l)) where
  compared : Sound (invalid (not (agreement l (completed l.fields))) ∷ [])
  compared = sound_back (layout_faults l.fields) (invalid (not (agreement l (completed l.fields))) ∷ []) s

  pub record_accepted : Accepted l.fields
  record_accepted = accepted l.fields (sound-front (layout_faults l.fields) (invalid (not (agreement l (completed l.fields))) ∷ []) s)

  pub record_agreed : Agreement l (completed l.fields)
  record_agreed = (agrees l (completed l.fields)).tells (not-false _ (sound-here compared))

  pub record_whole : l ≡ completed l.fields
  record_whole = agreed_whole l record_agreed
