-- Bytes that are fed in two calls, the second over the rest of them and of the buffer, are fed. Assumes nothing.
use mathlib.Core.Path.{◌≡◌, sym, ap, ◌∙◌, subst}
use mathlib.Core.List.{List, ◌++◌}
use Prim.Native.Nat.{ℕ, ◌+◌, ◌-◌, ◌*◌, ◌/◌, ◌%◌, ◌≤◌, ◌<◌}
use native.Mathlib.Nat.{div-add-mod', add-mul-mod_self_right}
use native.Mathlib.Omega.{arith}
use lib.ListN.{length, take, drop, take-append-drop}
use Rattle.answer.proofs.Filling.{part, length_part, halfway}
use Rattle.packets.specs.declared.Plan.{Plan}
use Rattle.packets.specs.declared.Packets.{Packets}
use Rattle.packets.specs.Promises.{no_tail, completes, state}
use Rattle.packets.specs.Steps.{BytesFeed, BytesFed, WordsFeed, WordsFed, Feeds, Fed}
use Rattle.packets.proofs.Behind.{passed, sane_sound}
use Rattle.packets.proofs.Cut.{completes_end}
use Rattle.packets.proofs.Parts.{head_feeds, out_long, rest_feeds, both_fed}

module _ {p : Plan} {k : ℕ} {bytes tail sums old : List ℕ} (fits : BytesFeed p k bytes tail sums old) (c h : ℕ) (inside : c ≤ length bytes) (e : h ≡ completes (state p k tail sums) c) where
  pub front-feeds : BytesFeed p k (part 0 c bytes) tail sums (part 0 h old)
  front-feeds = head_feeds fits c h inside e

  front_long : length (part 0 c bytes) ≡ c
  front_long = length_part 0 c bytes (omega arith) inside ∙ omega arith

  module _ {tail₁ sums₁ x : List ℕ} (first : BytesFed p k (part 0 c bytes) tail sums (part 0 h old) tail₁ sums₁ x) where
    abbrev out : List ℕ
    out = halfway h old x

    here : state p (k + length (part 0 c bytes)) tail₁ sums₁ ≡ state p (k + c) tail₁ sums₁
    here = rw front_long

    pub same_out : length out ≡ length old
    same_out = out_long fits c h inside e first

    pub back-feeds : BytesFeed p (k + c) (part c (length bytes) bytes) tail₁ sums₁ (part h (length out) out)
    back-feeds = subst (λ (st : Packets). Feeds st (part c (length bytes) bytes) (part h (length out) out)) here (rest_feeds fits c h inside e first)

    module _ {tail₂ sums₂ y : List ℕ} (second : BytesFed p (k + c) (part c (length bytes) bytes) tail₁ sums₁ (part h (length out) out) tail₂ sums₂ y) where
      all : k + c + length (part c (length bytes) bytes) ≡ k + length bytes
      all = omega (arith, length_part c (length bytes) bytes inside (omega arith))

      pub both_feds : BytesFed p k bytes tail sums old tail₂ sums₂ (take h out ++ (y ++ drop (length out - h) (drop h out)))
      both_feds =
          subst (λ (n : ℕ). Fed (state p k tail sums) bytes old (state p n tail₂ sums₂) (take h out ++ (y ++ drop (length out - h) (drop h out)))) all
          (both_fed fits c h inside e first (subst (λ (st : Packets). Fed st (part c (length bytes) bytes) (part h (length out) out) (state p (k + c + length (part c (length bytes) bytes)) tail₂ sums₂) y) (sym here) second))

    -- a second call that writes nothing
    pub quiet_feds : {tail₂ sums₂ : List ℕ} → BytesFed p (k + c) (part c (length bytes) bytes) tail₁ sums₁ (part h (length out) out) tail₂ sums₂ (part h (length out) out) → BytesFed p k bytes tail sums old tail₂ sums₂ out
    quiet_feds second = subst (Fed (state p k tail sums) bytes old _) (ap (λ (l : List ℕ). take h out ++ l) (take-append-drop (length out - h) (drop h out)) ∙ take-append-drop h out) (both_feds second)

-- between words, whole words complete as many bytes
pub complete_words : (p : Plan) (k : ℕ) (tail sums : List ℕ) (c : ℕ) → 0 < p.width → k % p.width ≡ 0 → c % p.width ≡ 0 → completes (state p k tail sums) c ≡ c
complete_words p k tail sums c wide begins words =
    let W = p.width in
    let c_words : c / W * W ≡ c = omega (arith, div-add-mod' c W, words) in
    let both : (k + c) % W ≡ 0 = ap (λ (x : ℕ). (k + x) % W) (sym c_words) ∙ add-mul-mod_self_right k (c / W) W ∙ begins in
    omega (arith, completes_end (state p k tail sums) wide c, div-add-mod' k W, begins, div-add-mod' (k + c) W, both)

-- words in two calls
module _ {p : Plan} {k : ℕ} {raw sums old : List ℕ} (feed : WordsFeed p k raw sums old) (c : ℕ) (inside : c ≤ length raw) (words : c % p.width ≡ 0) where
  wide : 0 < p.width
  wide = (sane_sound p (passed _ feed.feeds.passes).sound).good.wide

  exact : c ≡ completes (state p k no_tail sums) c
  exact = sym (complete_words p k no_tail sums c wide feed.begins words)

  rest_words : (length raw - c) % p.width ≡ 0
  rest_words =
      let W = p.width in
      let c_words : c / W * W ≡ c = omega (arith, div-add-mod' c W, words) in
      sym (add-mul-mod_self_right (length raw - c) (c / W) W) ∙ ap (λ (n : ℕ). n % W) (omega (arith, c_words, inside)) ∙ feed.words

  pub front-words : WordsFeed p k (part 0 c raw) sums (part 0 c old)
  front-words = record { feeds = front-feeds feed.feeds c c inside exact; begins = feed.begins; words = rw (length_part 0 c raw (omega arith) inside) (ap (λ (n : ℕ). n % p.width) (omega arith) ∙ words) }

  module _ {one x : List ℕ} (first : WordsFed p k (part 0 c raw) sums (part 0 c old) one x) where
    pub same-words_out : length (halfway c old x) ≡ length old
    same-words_out = same_out feed.feeds c c inside exact first

    pub back-words : WordsFeed p (k + c) (part c (length raw) raw) one (part c (length (halfway c old x)) (halfway c old x))
    back-words =
        let W = p.width in
        let c_words : c / W * W ≡ c = omega (arith, div-add-mod' c W, words) in
        record {
          feeds = back-feeds feed.feeds c c inside exact first;
          begins = ap (λ (n : ℕ). (k + n) % W) (sym c_words) ∙ add-mul-mod_self_right k (c / W) W ∙ feed.begins;
          words = rw (length_part c (length raw) raw inside (omega arith)) rest_words;
        }

    pub both_words-fed : {two y : List ℕ} → WordsFed p (k + c) (part c (length raw) raw) one (part c (length (halfway c old x)) (halfway c old x)) two y → WordsFed p k raw sums old two (take c (halfway c old x) ++ (y ++ drop (length (halfway c old x) - c) (drop c (halfway c old x))))
    both_words-fed = both_feds feed.feeds c c inside exact first
