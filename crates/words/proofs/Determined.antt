-- Each promise of this crate allows one outcome. Assumes nothing.
use mathlib.Core.Path.{◌≡◌, sym, ◌∙◌}
use mathlib.Core.Bool.{Bool}
use mathlib.Core.List.{List, [], ◌∷◌}
use Prim.Native.Nat.{ℕ}
use Rattle.answer.specs.Outcome.{Answer}
use Rattle.answer.proofs.Promised.{place_once, answer_once}
use Rattle.answer.specs.declared.ByteAt.{ByteAt}
use Rattle.words.specs.Word.{backwards}
use Rattle.words.specs.Promises.{served, Joined, Placed, ReadWord, LoadedWord}

pub width_served_determined : (width : ℕ) (a b : Bool) → a ≡ served width → b ≡ served width → a ≡ b
width_served_determined width a b p q = p ∙ sym q

joined_determined : (bytes : List ℕ) (x y : ℕ) → Joined bytes x → Joined bytes y → x ≡ y
joined_determined bytes x y p q = p ∙ sym q

pub join2_determined : (a b x y : ℕ) → Joined (a ∷ b ∷ []) x → Joined (a ∷ b ∷ []) y → x ≡ y
join2_determined a b = joined_determined (a ∷ b ∷ [])

pub join3_determined : (a b c x y : ℕ) → Joined (a ∷ b ∷ c ∷ []) x → Joined (a ∷ b ∷ c ∷ []) y → x ≡ y
join3_determined a b c = joined_determined (a ∷ b ∷ c ∷ [])

pub join4_determined : (a b c d x y : ℕ) → Joined (a ∷ b ∷ c ∷ d ∷ []) x → Joined (a ∷ b ∷ c ∷ d ∷ []) y → x ≡ y
join4_determined a b c d = joined_determined (a ∷ b ∷ c ∷ d ∷ [])

pub join8_determined : (a b c d e f g h x y : ℕ) → Joined (a ∷ b ∷ c ∷ d ∷ e ∷ f ∷ g ∷ h ∷ []) x → Joined (a ∷ b ∷ c ∷ d ∷ e ∷ f ∷ g ∷ h ∷ []) y → x ≡ y
join8_determined a b c d e f g h = joined_determined (a ∷ b ∷ c ∷ d ∷ e ∷ f ∷ g ∷ h ∷ [])

backwards_determined : (width v x y : ℕ) → x ≡ backwards width v → y ≡ backwards width v → x ≡ y
backwards_determined width v x y p q = p ∙ sym q

pub backwards2_determined : (v x y : ℕ) → x ≡ backwards 2 v → y ≡ backwards 2 v → x ≡ y
backwards2_determined = backwards_determined 2

pub backwards3_determined : (v x y : ℕ) → x ≡ backwards 3 v → y ≡ backwards 3 v → x ≡ y
backwards3_determined = backwards_determined 3

pub backwards4_determined : (v x y : ℕ) → x ≡ backwards 4 v → y ≡ backwards 4 v → x ≡ y
backwards4_determined = backwards_determined 4

pub backwards8_determined : (v x y : ℕ) → x ≡ backwards 8 v → y ≡ backwards 8 v → x ≡ y
backwards8_determined = backwards_determined 8

pub byte_place_determined : (i width bytes : ℕ) (a b : Answer ByteAt) → Placed i width bytes a → Placed i width bytes b → a ≡ b
byte_place_determined i width bytes a b p q = place_once a b (p ∙ sym q)

pub read_word_determined : (s : List ℕ) (at width : ℕ) (le : Bool) (a b : Answer ℕ) → ReadWord s at width le a → ReadWord s at width le b → a ≡ b
read_word_determined s at width le a b p q = answer_once a b (p ∙ sym q)

pub load_determined : (s : List ℕ) (i : ℕ) (wide le : Bool) (a b : Answer ℕ) → LoadedWord s i wide le a → LoadedWord s i wide le b → a ≡ b
load_determined s i wide le a b p q = answer_once a b (p ∙ sym q)
