-- A word that was cut is finished, and bytes come from the next word's start on. Assumes nothing.
use mathlib.Core.Path.{◌≡◌, refl, sym, ap, ◌∙◌, subst}
use mathlib.Core.List.{List, ◌++◌}
use Prim.Native.Nat.{ℕ, ◌+◌, ◌-◌, ◌*◌, ◌/◌, ◌%◌, ◌≤◌, ◌<◌}
use native.Mathlib.Nat.{div-add-mod', mod-le, add-mul, one-mul, mul-mod_left}
use native.Mathlib.Decide.{dec_lt}
use native.Mathlib.Omega.{arith}
use borrow.Author.Tests.{eq-eqb, ne_eqb}
use lib.ListN.{length, take, drop}
use Rattle.answer.proofs.Filling.{part, length_part, length-stores, halfway}
use Rattle.packets.specs.declared.Plan.{Plan}
use Rattle.packets.specs.Promises.{no_tail, completes, state}
use Rattle.packets.specs.Steps.{BytesFeed, BytesFed, WordsFeed, WordsFed, OneWord, FromWord, missing, Finishes, HoldFits, Held}
use Rattle.packets.proofs.Bytewise.{Sane}
use Rattle.packets.proofs.Joins.{front-feeds, back-feeds, same_out, both_feds}
use Rattle.packets.proofs.Cut.{completes_end}
use Rattle.packets.proofs.Parts.{head_room}
use Rattle.packets.proofs.Tails.{plan_sane, fill_less, hold_fed, word-feeds, finish_fed}

-- of an unfinished word some bytes are missing
pub fill_inside : {p : Plan} {k : ℕ} {bytes tail sums old : List ℕ} → BytesFeed p k bytes tail sums old → (fill : ℕ) → fill ≡ k % p.width → fill < p.width
fill_inside feed fill is = rw is (fill_less feed)

-- the bytes that a word lacks, if it is begun
missing-none : (fill width : ℕ) → fill ≡ 0 → missing fill width ≡ 0
missing-none fill width e = rw (eq-eqb fill 0 e)

missing-some : (fill width : ℕ) → 0 < fill → missing fill width ≡ width - fill
missing-some fill width h = rw (ne_eqb fill 0 (λ e. omega arith))

-- they come
module _ {p : Plan} {k fill : ℕ} {bytes tail sums old : List ℕ} (from : Finishes p k fill bytes tail sums old) where
  cut_sane : Sane p
  cut_sane = plan_sane from.feeds

  -- nothing was cut
  pub uncut_fed : fill ≡ 0 → BytesFed p k bytes tail sums old tail sums old
  uncut_fed e =
      let none : length bytes ≡ 0 = from.ends ∙ missing-none fill p.width e in
      hold_fed from.feeds (omega (arith, none, fill_less from.feeds)) (rw none refl)

  -- the word is finished
  module _ (some : 0 < fill) where
    end : k % p.width + length bytes ≡ p.width
    end = omega (arith, from.ends, missing-some fill p.width some, from.cut, fill_inside from.feeds fill from.cut)

    pub cut_fits : HoldFits bytes fill tail
    cut_fits = record { room = omega (arith, end, from.cut, cut_sane.narrow, from.feeds.tails) }

    pub back_inside : fill ≤ k
    back_inside = rw from.cut (mod-le k p.width)

    module _ (tail' : List ℕ) (held : Held bytes fill tail tail') where
      held-here : Held bytes (k % p.width) tail tail'
      held-here = subst (λ (f : ℕ). Held bytes f tail tail') from.cut held

      pub tail_long : length tail' ≡ 8
      tail_long = ap length held ∙ length-stores tail fill (length bytes) _ ∙ from.feeds.tails

      pub tail_room : p.width ≤ length tail'
      tail_room = omega (arith, tail_long, cut_sane.narrow)

      pub one_word : OneWord p (k - fill) (part 0 p.width tail') sums old
      one_word = record {
        feed = subst (λ (f : ℕ). WordsFeed p (k - f) (part 0 p.width tail') sums old) (sym from.cut) (word-feeds from.feeds end tail' held-here);
        one = length_part 0 p.width tail' (omega arith) tail_room ∙ omega arith;
      }

      pub word-fed : {one x : List ℕ} → WordsFed p (k - fill) (part 0 p.width tail') sums old one x → BytesFed p k bytes tail sums old no_tail one x
      word-fed {one} {x} word = finish_fed from.feeds end tail' held-here (subst (λ (f : ℕ). WordsFed p (k - f) (part 0 p.width tail') sums old one x) from.cut word)

-- any bytes: those, and the others
module _ {p : Plan} {k : ℕ} {bytes tail sums old : List ℕ} (feed : BytesFeed p k bytes tail sums old) (fill : ℕ) (is : fill ≡ k % p.width) where
  sane : Sane p
  sane = plan_sane feed

  inside : fill < p.width
  inside = fill_inside feed fill is

  module _ (head : ℕ) (lacks : head ≡ missing fill p.width) where
    head_less : head ≤ p.width - fill
    head_less = by (dec_lt 0 fill)
      where
        by : Dec (0 < fill) → head ≤ p.width - fill
        by (yes h) = omega (arith, lacks, missing-some fill p.width h)
        by (no g) = omega (arith, lacks, missing-none fill p.width (omega arith))

    pub done_small : fill + head ≤ 8
    done_small = omega (arith, head_less, inside, sane.narrow)

    -- too few bytes to finish the word
    pub hold_fits : length bytes < head → HoldFits bytes fill tail
    hold_fits h = record { room = omega (arith, head_less, inside, sane.narrow, feed.tails) }

    pub short-fed : length bytes < head → {tail' : List ℕ} → Held bytes fill tail tail' → BytesFed p k bytes tail sums old tail' sums old
    short-fed h {tail'} e = hold_fed feed (omega (arith, head_less, inside, is)) (subst (λ (f : ℕ). Held bytes f tail tail') is e)

    -- enough of them: so many bytes of a word are finished
    module _ (enough : head ≤ length bytes) where
      abbrev done : ℕ
      done = fill + head

      at-word : (k + head) % p.width ≡ 0
      at-word = by (dec_lt 0 fill)
        where
          by : Dec (0 < fill) → (k + head) % p.width ≡ 0
          by (yes h) =
              let next : k + head ≡ (k / p.width + 1) * p.width = omega (arith, lacks, missing-some fill p.width h, is, inside, div-add-mod' k p.width, add-mul (k / p.width) 1 p.width, one-mul p.width) in
              rw next (mul-mod_left (k / p.width + 1) p.width)
          by (no g) = let here : k + head ≡ k = omega (arith, lacks, missing-none fill p.width (omega arith)) in rw here (omega (arith, is))

      whole : done ≡ completes (state p k tail sums) head
      whole = omega (arith, completes_end (state p k tail sums) sane.good.wide head, div-add-mod' k p.width, is, div-add-mod' (k + head) p.width, at-word)

      pub done-room : done ≤ length old
      done-room = head_room feed head done enough whole

      pub finishes : Finishes p k fill (part 0 head bytes) tail sums (part 0 done old)
      finishes = record { feeds = front-feeds feed head done enough whole; cut = is; ends = length_part 0 head bytes (omega arith) enough ∙ omega (arith, lacks) }

      module _ {tail₁ one x : List ℕ} (first : BytesFed p k (part 0 head bytes) tail sums (part 0 done old) tail₁ one x) where
        abbrev out : List ℕ
        out = halfway done old x

        pub rest_room : done ≤ length out
        rest_room = omega (arith, same_out feed head done enough whole first, done-room)

        pub rest_from : FromWord p (k + head) (part head (length bytes) bytes) tail₁ one (part done (length out) out)
        rest_from = record { feeds = back-feeds feed head done enough whole first; begins = at-word }

        pub all-fed : {tail₂ sums₂ y : List ℕ} → BytesFed p (k + head) (part head (length bytes) bytes) tail₁ one (part done (length out) out) tail₂ sums₂ y → BytesFed p k bytes tail sums old tail₂ sums₂ (take done out ++ (y ++ drop (length out - done) (drop done out)))
        all-fed = both_feds feed head done enough whole first
