-- What is done to bytes in place once they stand in the picture's order: white inverted, colours beside alpha made straight. Assumes nothing.
use Rattle.std.specs.Prelude.{ℕ, ◌+◌, ◌-◌, ◌*◌, ◌/◌, ◌%◌, ◌<◌, ◌≡◌, Bool, true, not, List, [], ◌∷◌, length, get_or, eqb}
use Rattle.answer.specs.Outcome.{Fault, unless, pick, unsupported, invalid, Promise, outcome, Done}
use Rattle.answer.specs.Table.{table, filled, stores}
use Rattle.pixels.specs.Render.{straightened, straight_colour}

-- every byte inverted; it never refuses (rule 8.1)
abbrev pub Inverted : List ℕ → List ℕ → Type 0
Inverted old new = new ≡ table (length old) (λ k. 255 - get_or old k 0)

-- byte j of pixels whose last byte is their alpha (rule 8.2)
abbrev pub straight_at : List ℕ → ℕ → Bool → Bool → ℕ → ℕ
straight_at old channels multiplied white j =
    pick (eqb (j % channels) (channels - 1)) (get_or old j 0) (straight_colour multiplied white (get_or old j 0) (get_or old (j - j % channels + channels - 1) 0))

abbrev pub straight_faults : List ℕ → ℕ → List Fault
straight_faults old channels = unsupported (eqb channels 0) ∷ invalid (not (eqb (length old % channels) 0)) ∷ []

abbrev pub Straightened : List ℕ → ℕ → Bool → Bool → Done → List ℕ → Type 0
Straightened old channels multiplied white answer new =
    Promise (unless (straight_faults old channels) tt) (table (length old) (straight_at old channels multiplied white)) old (outcome answer) new

-- the share of alpha a: 255 / a in parts of 2^17, rounded up
unfoldable pub share_of : ℕ → ℕ
share_of a = pick (eqb a 0) 0 ((255 * 131072 + a - 1) / a)

-- a colour u, and a colour byte v, beside any alpha that has this share
abbrev pub StraightBy : ℕ → ℕ → ℕ → Type 0
StraightBy share u r = (a : ℕ) → a < 256 → share ≡ share_of a → r ≡ straightened u a

abbrev pub ColourBy : ℕ → Bool → Bool → ℕ → ℕ → Type 0
ColourBy share multiplied white v r = (a : ℕ) → a < 256 → (multiplied ≡ true → share ≡ share_of a) → r ≡ straight_colour multiplied white v a

-- what the private loops need and do
pub record PixelGiven (old : List ℕ) (at last : ℕ) (multiplied : Bool) (share : ℕ) : Type 0 where
  pub room : at + last < length old
  pub known : multiplied ≡ true → share ≡ share_of (get_or old (at + last) 0)

pub record WholePixels (old : List ℕ) (channels : ℕ) : Type 0 where
  pub some : 0 < channels
  pub whole : length old % channels ≡ 0

abbrev pub PixelStraightened : List ℕ → ℕ → ℕ → Bool → Bool → List ℕ → Type 0
PixelStraightened old at last multiplied white new =
    new ≡ stores old at last (λ c. straight_colour multiplied white (get_or old (at + c) 0) (get_or old (at + last) 0))

abbrev pub PixelsStraightened : List ℕ → ℕ → Bool → Bool → List ℕ → Type 0
PixelsStraightened old channels multiplied white new = new ≡ filled (length old) (straight_at old channels multiplied white) old
