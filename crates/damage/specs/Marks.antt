-- Damage marks (rules 4.1 to 4.3): sample n is marked if one of its own bytes is damaged, or, when it takes from the sample
-- `channels` before it, if that one is marked. And what a mark is to mean: two strips, alike where nothing is damaged, whose samples differ.
-- Assumes nothing.
use Rattle.std.specs.Prelude.{ℕ, zero, suc, ◌+◌, ◌-◌, ◌*◌, ◌<◌, ◌≡◌, Bool, false, not, ◌||◌, List, length, get_or, eqb}
use Rattle.answer.specs.Outcome.{pick}
use Rattle.words.specs.Word.{Bytes}
use Rattle.samples.specs.Sample.{alone, sample}
use Rattle.samples.specs.declared.Strip.{Strip}

-- byte k is damaged
abbrev pub damaged : List ℕ → ℕ → Bool
damaged damage k = not (eqb (get_or damage k 0) 0)

-- f holds somewhere below n
abbrev pub any_below : ℕ → (ℕ → Bool) → Bool
any_below zero f = false
any_below (suc n) f = any_below n f || f n

-- one of the `width` bytes at a place is damaged
unfoldable pub struck_at : ℕ → List ℕ → ℕ → Bool
struck_at width damage at = any_below width (λ p. damaged damage (at + p))

-- one of the bytes of sample n is damaged
abbrev pub struck : ℕ → List ℕ → ℕ → Bool
struck width damage n = struck_at width damage (n * width)

-- whether b holds of sample n or of one that it takes from, with a bound on how many it goes back; n of them are always enough
abbrev pub tainted : Strip → Bool → (ℕ → Bool) → ℕ → ℕ → Bool
tainted g predict b zero n = b n
tainted g predict b (suc more) n = b n || pick (alone g predict n) false (tainted g predict b more (n - g.channels))

unfoldable pub marked : Strip → Bool → List ℕ → ℕ → Bool
marked g predict damage n = tainted g predict (struck g.width damage) n n

-- how a mark is written
abbrev pub mark_byte : Bool → ℕ
mark_byte b = pick b 1 0

-- at how many places below n f holds
abbrev pub counted : ℕ → (ℕ → Bool) → ℕ
counted zero f = 0
counted (suc n) f = counted n f + mark_byte (f n)

-- two strips that the damage could be hiding: alike in every byte that is not damaged (rule 4.2)
pub record Alike (damage a b : List ℕ) : Type 0 where
  pub a-long : length a ≡ length damage
  pub b-long : length b ≡ length damage
  pub a-bytes : Bytes a
  pub b-bytes : Bytes b
  pub same : (k : ℕ) → k < length damage → get_or damage k 0 ≡ 0 → get_or a k 0 ≡ get_or b k 0

-- and their samples at n are not the same
pub record Differ (g : Strip) (predict le : Bool) (damage : List ℕ) (n : ℕ) : Type 0 where
  pub a : List ℕ
  pub b : List ℕ
  pub alike : Alike damage a b
  pub differ : sample g predict le a n ≡ sample g predict le b n → ⊥
