-- Bytes from a word's start on: whole words, and the bytes of a begun word. Assumes nothing.
use mathlib.Core.Path.{◌≡◌, sym, ap, ◌∙◌, subst}
use mathlib.Core.Bool.{true}
use mathlib.Core.List.{List}
use Prim.Native.Nat.{ℕ, ◌+◌, ◌-◌, ◌*◌, ◌/◌, ◌%◌, ◌≤◌, ◌<◌}
use native.Mathlib.Nat.{div-add-mod', mod-lt, mod-le, mul-mod_left, add-mul-mod_self_right}
use native.Mathlib.Omega.{arith}
use borrow.Author.Tests.{not-false}
use lib.ListN.{length}
use Rattle.answer.proofs.Filling.{part, length_part, halfway}
use Rattle.answer.proofs.Promised.{sound-here}
use Rattle.words.specs.Promises.{served}
use Rattle.packets.specs.declared.Plan.{Plan}
use Rattle.packets.specs.declared.Packets.{Packets}
use Rattle.packets.specs.State.{consistent}
use Rattle.packets.specs.Promises.{no_tail, completes, state}
use Rattle.packets.specs.Steps.{BytesFeed, BytesFed, WordsFeed, WordsFed, FromWord, HoldFits, Held}
use Rattle.packets.proofs.Bytewise.{Sane}
use Rattle.packets.proofs.Behind.{passed}
use Rattle.packets.proofs.Joins.{complete_words, front-feeds, back-feeds, quiet_feds}
use Rattle.packets.proofs.Parts.{head_room}
use Rattle.packets.proofs.Tails.{plan_sane, no_tail_lem, hold_fed}

-- the width that a state has is served
pub width_served : (st : Packets) → consistent st ≡ true → served st.plan.width ≡ true
width_served st e = not-false (served st.plan.width) (sound-here (passed st e).sound)

pub served-width : {p : Plan} {k : ℕ} {bytes tail sums old : List ℕ} → BytesFeed p k bytes tail sums old → served p.width ≡ true
served-width feed = width_served _ feed.passes

module _ {p : Plan} {k : ℕ} {bytes tail sums old : List ℕ} (from : FromWord p k bytes tail sums old) (past : ℕ) (over : past ≡ length bytes % p.width) where
  sane : Sane p
  sane = plan_sane from.feeds

  empty : tail ≡ no_tail
  empty = no_tail_lem from.feeds from.begins

  -- where the whole words end
  abbrev pub end : ℕ
  end = length bytes - past

  pub past_inside : past ≤ length bytes
  past_inside = rw over (mod-le (length bytes) p.width)

  end_inside : end ≤ length bytes
  end_inside = omega arith

  end_is : end ≡ length bytes / p.width * p.width
  end_is = omega (arith, over, div-add-mod' (length bytes) p.width)

  end_words : end % p.width ≡ 0
  end_words = rw end_is (mul-mod_left (length bytes / p.width) p.width)

  exact : end ≡ completes (state p k tail sums) end
  exact = sym (complete_words p k tail sums end sane.good.wide from.begins end_words)

  pub words-first : WordsFeed p k (part 0 end bytes) sums (part 0 end old)
  words-first = record {
    feeds = subst (λ (l : List ℕ). BytesFeed p k (part 0 end bytes) l sums (part 0 end old)) empty (front-feeds from.feeds end end end_inside exact);
    begins = from.begins;
    words = rw (length_part 0 end bytes (omega arith) end_inside) (ap (λ (n : ℕ). n % p.width) (omega arith) ∙ end_words);
  }

  pub end_room : end ≤ length old
  end_room = head_room from.feeds end end end_inside exact

  module _ {one x : List ℕ} (first : WordsFed p k (part 0 end bytes) sums (part 0 end old) one x) where
    abbrev rest : List ℕ
    rest = part end (length bytes) bytes

    words-fed : BytesFed p k (part 0 end bytes) tail sums (part 0 end old) tail one x
    words-fed = subst (λ (l : List ℕ). BytesFed p k (part 0 end bytes) l sums (part 0 end old) l one x) (sym empty) first

    rest_feeds : BytesFeed p (k + end) rest tail one (part end (length (halfway end old x)) (halfway end old x))
    rest_feeds = back-feeds from.feeds end end end_inside exact words-fed

    rest_begins : (k + end) % p.width ≡ 0
    rest_begins = ap (λ (n : ℕ). (k + n) % p.width) end_is ∙ add-mul-mod_self_right k (length bytes / p.width) p.width ∙ from.begins

    rest_short : (k + end) % p.width + length rest < p.width
    rest_short = omega (arith, over, rest_begins, length_part end (length bytes) bytes end_inside (omega arith), mod-lt (length bytes) sane.good.wide, mod-le (length bytes) p.width)

    pub rest_fits : HoldFits rest 0 tail
    rest_fits = record { room = omega (arith, rest_short, sane.narrow, from.feeds.tails) }

    pub rest_held : {tail' : List ℕ} → Held rest 0 tail tail' → BytesFed p k bytes tail sums old tail' one (halfway end old x)
    rest_held {tail'} e = quiet_feds from.feeds end end end_inside exact words-fed (hold_fed rest_feeds rest_short (subst (λ (f : ℕ). Held rest f tail tail') (sym rest_begins) e))
