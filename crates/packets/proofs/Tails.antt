-- The unfinished word: bytes that finish none, and a word that was cut and is finished. Assumes nothing.
use mathlib.Core.Path.{◌≡◌, sym, ap, ◌∙◌, subst}
use mathlib.Core.Bool.{true}
use mathlib.Core.List.{List, [], ◌++◌}
use Prim.Native.Nat.{ℕ, ◌+◌, ◌-◌, ◌*◌, ◌/◌, ◌%◌, ◌≤◌, ◌<◌}
use native.Mathlib.Nat.{div-add-mod', mod-lt, mul-mod_left, mul-div_cancel, zero-mul, sub_self, zero-add, mod_self}
use native.Mathlib.Decide.{dec_lt}
use native.Mathlib.Omega.{arith}
use borrow.Author.Tests.{lt-ltb, le-ltb}
use lib.Dec.{ltb}
use lib.ListN.{length, get_or, get_or-append, length-append}
use lib.Seq.{get_or-append-add, ext_get_or}
use Rattle.answer.specs.Outcome.{pick}
use Rattle.answer.specs.Table.{table, filled, stores}
use Rattle.answer.proofs.Filling.{part, length_part, part_at, length-table, table_at, length-stores, stores_at, stores_rest, filled-same}
use Rattle.laws.proofs.Groups.{group_of, item_of}
use Rattle.laws.proofs.Lists.{past_end}
use Rattle.packets.specs.declared.Plan.{Plan}
use Rattle.packets.specs.declared.Packets.{Packets}
use Rattle.packets.specs.State.{tail_at, tail_of, sums_of, state_at, consistent, behind, most}
use Rattle.packets.specs.Promises.{no_tail, completes, continued_at, continued, state}
use Rattle.packets.specs.Steps.{Fed, BytesFeed, BytesFed, WordsFeed, WordsFed, Held}
use Rattle.packets.proofs.Bytewise.{Sane, tail_none, same-words}
use Rattle.packets.proofs.Agree.{sums_agree}
use Rattle.packets.proofs.Behind.{Passed, passed, Shaped, sane_sound, behind-length, tail_behind, sums-behind}
use Rattle.packets.proofs.Reaches.{state-passes}
use Rattle.packets.proofs.Cut.{cut-state, cut-back, cut-long}

module _ {p : Plan} {k : ℕ} {b tail sums old : List ℕ} (feed : BytesFeed p k b tail sums old) where
  abbrev pub st : Packets
  st = state p k tail sums

  abbrev W : ℕ
  W = p.width

  abbrev fill : ℕ
  fill = k % p.width

  ok : Passed st
  ok = passed st feed.passes

  shaped : Shaped st
  shaped = record { tails = feed.tails; sums = feed.sums }

  pub plan_sane : Sane p
  plan_sane = sane_sound p ok.sound

  wide : 0 < W
  wide = plan_sane.good.wide

  pub fill_less : fill < W
  fill_less = mod-lt k wide

  -- between words the tail is empty
  pub no_tail_lem : k % p.width ≡ 0 → tail ≡ no_tail
  no_tail_lem e = sym (tail_behind st ok shaped) ∙ tail_none p plan_sane (behind st) k e

  -- byte j of the tail
  tail_at_lem : (j : ℕ) → j < 8 → get_or tail j 0 ≡ pick (ltb j fill) (get_or (behind st) (k / W * W + j) 0) 0
  unfolding tail_of tail_at
  tail_at_lem j h = ap (λ (l : List ℕ). get_or l j 0) (sym (tail_behind st ok shaped)) ∙ table_at 8 (tail_at p (behind st) k) j h

  pub tail_zero : (j : ℕ) → fill ≤ j → get_or tail j 0 ≡ 0
  tail_zero j h = by (dec_lt j 8)
    where
      by : Dec (j < 8) → get_or tail j 0 ≡ 0
      by (yes l) = tail_at_lem j l ∙ rw (le-ltb j fill h)
      by (no m) = past_end tail j (omega (arith, feed.tails))

  module _ (short : fill + length b < W) where
    abbrev s : List ℕ
    s = behind (state p k tail sums) ++ b

    next : k + length b ≡ k / W * W + (fill + length b)
    next = omega (arith, div-add-mod' k W)

    same_word : (k + length b) / W ≡ k / W
    same_word = ap (λ (n : ℕ). n / W) next ∙ group_of (k / W) W short

    next_fill : (k + length b) % W ≡ fill + length b
    next_fill = ap (λ (n : ℕ). n % W) next ∙ item_of (k / W) W short

    front : (i : ℕ) → i < k → get_or s i 0 ≡ get_or (behind st) i 0
    front i h = get_or-append (behind st) b 0 i (rw (behind-length st ok shaped) h)

    back : (i : ℕ) → get_or s (k + i) 0 ≡ get_or b i 0
    back i = ap (λ (n : ℕ). get_or s (n + i) 0) (sym (behind-length st ok shaped)) ∙ get_or-append-add (behind st) b i 0

    -- byte j of the tail with the bytes: its own, then theirs
    abbrev pub longer : ℕ → ℕ
    longer j = pick (ltb j (k % p.width)) (get_or tail j 0) (get_or b (j - k % p.width) 0)

    longer_at : (j : ℕ) → j < 8 → tail_at p s (k + length b) j ≡ longer j
    unfolding tail_at
    longer_at j h = rw (same_word, next_fill) (by (dec_lt j fill) (dec_lt j (fill + length b)))
      where
        by : Dec (j < fill) → Dec (j < fill + length b) → pick (ltb j (fill + length b)) (get_or s (k / W * W + j) 0) 0 ≡ pick (ltb j fill) (get_or tail j 0) (get_or b (j - fill) 0)
        by (yes l) d =
            rw (lt-ltb j fill l, lt-ltb j (fill + length b) (omega arith))
            (front (k / W * W + j) (omega (arith, div-add-mod' k W)) ∙ sym (tail_at_lem j h ∙ rw (lt-ltb j fill l)))
        by (no m) (yes l) =
            let there : k / W * W + j ≡ k + (j - fill) = omega (arith, div-add-mod' k W) in
            rw (le-ltb j fill (omega arith), lt-ltb j (fill + length b) l, there) (back (j - fill))
        by (no m) (no g) = rw (le-ltb j fill (omega arith), le-ltb j (fill + length b) (omega arith)) (sym (past_end b (j - fill) (omega arith)))

    quiet : completes st (length b) ≡ 0
    quiet = rw (same_word, sub_self (k / W)) (zero-mul W)

    pub held-fed : {tail' : List ℕ} → length tail' ≡ 8 → ((j : ℕ) → j < 8 → get_or tail' j 0 ≡ longer j) → BytesFed p k b tail sums old tail' sums old
    unfolding state_at tail_of
    held-fed {tail'} long same = record {
      state-is =
          let tails : tail_of p s (k + length b) ≡ tail' =
          ext_get_or 0 (table 8 (tail_at p s (k + length b))) tail' (length-table 8 (tail_at p s (k + length b)) ∙ sym long) (λ j l.
          let h : j < 8 = omega (arith, length-table 8 (tail_at p s (k + length b))) in
          table_at 8 (tail_at p s (k + length b)) j h ∙ longer_at j h ∙ sym (same j h)) in
          let sum : sums_of p s (k + length b) ≡ sums = same-words p plan_sane s (k + length b) k same_word ∙ sums_agree p plan_sane s (behind st) k front ∙ sums-behind st ok shaped in
          rw (tails, sum);
      wrote = rw quiet;
    }

    -- put behind the others
    pub hold_fed : {tail' : List ℕ} → Held b fill tail tail' → BytesFed p k b tail sums old tail' sums old
    hold_fed {tail'} e = held-fed (ap length e ∙ length-stores tail fill (length b) _ ∙ feed.tails) (λ j h. by j h (dec_lt j fill) (dec_lt j (fill + length b)))
      where
        narrow : W ≤ 8
        narrow = plan_sane.narrow

        by : (j : ℕ) → j < 8 → Dec (j < fill) → Dec (j < fill + length b) → get_or tail' j 0 ≡ longer j
        by j h (yes l) d = ap (λ (x : List ℕ). get_or x j 0) e ∙ stores_rest tail fill (length b) _ j (λ q. omega arith) ∙ sym (rw (lt-ltb j fill l))
        by j h (no m) (yes l) =
            let there : fill + (j - fill) ≡ j = omega arith in
            ap (λ (x : List ℕ). get_or x j 0) e
            ∙ (rw there at (stores_at tail fill (length b) (λ i. get_or b i 0) (j - fill) (omega arith) (omega (arith, feed.tails, narrow))))
            ∙ sym (rw (le-ltb j fill (omega arith)))
        by j h (no m) (no g) =
            ap (λ (x : List ℕ). get_or x j 0) e
            ∙ stores_rest tail fill (length b) _ j (λ q. omega arith)
            ∙ tail_zero j (omega arith)
            ∙ sym (rw (le-ltb j fill (omega arith)) (past_end b (j - fill) (omega arith)))

-- bytes stored over all of a tail
pub overwritten : (tail bytes : List ℕ) {tail' : List ℕ} → length bytes ≡ length tail → Held bytes 0 tail tail' → tail' ≡ bytes
overwritten tail bytes {tail'} all held =
    ext_get_or 0 tail' bytes (same ∙ sym all) (λ j h.
    ap (λ (x : List ℕ). get_or x j 0) held ∙ (rw (zero-add j) at (stores_at tail 0 (length bytes) (λ i. get_or bytes i 0) j (omega (arith, same, all)) (omega (arith, all)))))
  where
    same : length tail' ≡ length tail
    same = ap length held ∙ length-stores tail 0 (length bytes) (λ i. get_or bytes i 0)

-- a word that was cut, taken with its first bytes
module _ {p : Plan} {k : ℕ} {a tail sums old : List ℕ} (feed : BytesFeed p k a tail sums old) (end : k % p.width + length a ≡ p.width) where
  abbrev first : ℕ
  first = k - k % p.width

  abbrev now_state : Packets
  now_state = state p k tail sums

  abbrev before : Packets
  before = state p first no_tail sums

  sane : Sane p
  sane = plan_sane feed

  is-passed : Passed now_state
  is-passed = passed now_state feed.passes

  is_shaped : Shaped now_state
  is_shaped = record { tails = feed.tails; sums = feed.sums }

  first-is : first ≡ k / p.width * p.width
  first-is = omega (arith, div-add-mod' k p.width)

  pub first-words : first % p.width ≡ 0
  first-words = rw first-is (mul-mod_left (k / p.width) p.width)

  first_word : first / p.width ≡ k / p.width
  first_word = rw first-is (mul-div_cancel (k / p.width) sane.good.wide)

  -- the state before the word is one that its strip leads to
  before_is : before ≡ state_at p (behind now_state) first
  unfolding state_at
  before_is = rw (tail_none p sane (behind now_state) first first-words, same-words p sane (behind now_state) first k first_word, sums-behind now_state is-passed is_shaped)

  pub before_passes : consistent before ≡ true
  before_passes = ap consistent before_is ∙ state-passes p is-passed.sound (behind now_state) first (omega (arith, is-passed.short))

  before_shaped : Shaped before
  unfolding no_tail
  before_shaped = record { tails = length-table 8 (λ j. 0); sums = feed.sums }

  -- the bytes of the word that had come
  abbrev pub came : List ℕ
  came = part 0 (k % p.width) tail

  came_long : length came ≡ k % p.width
  came_long = length_part 0 (k % p.width) tail (omega arith) (omega (arith, feed.tails, fill_less feed, sane.narrow)) ∙ omega arith

  up_to_now : first + length came ≡ k
  up_to_now = omega (arith, came_long, div-add-mod' k p.width)

  came_quiet : completes before (length came) ≡ 0
  came_quiet = rw (up_to_now, first_word, sub_self (k / p.width)) (zero-mul p.width)

  came_feeds : BytesFeed p first came no_tail sums []
  came_feeds = record {
    passes = before_passes;
    tails = before_shaped.tails;
    sums = feed.sums;
    fits = omega (arith, up_to_now, is-passed.short);
    room = omega (arith, came_quiet);
  }

  came_at : (j : ℕ) → j < 8 → get_or tail j 0 ≡ longer came_feeds (omega (arith, came_long, first-words, fill_less feed)) j
  came_at j h = by (dec_lt j (k % p.width))
    where
      none : j - first % p.width ≡ j
      none = omega (arith, first-words)

      by : Dec (j < k % p.width) → get_or tail j 0 ≡ pick (ltb j (first % p.width)) (get_or no_tail j 0) (get_or came (j - first % p.width) 0)
      by (yes l) = sym (rw (le-ltb j (first % p.width) (omega (arith, first-words)), none) (part_at 0 (k % p.width) tail j (omega arith) ∙ ap (λ (n : ℕ). get_or tail n 0) (zero-add j)))
      by (no m) = tail_zero feed j (omega arith) ∙ sym (rw (le-ltb j (first % p.width) (omega (arith, first-words)), none) (past_end came j (omega (arith, came_long))))

  -- so it leads to the state
  now_is : now_state ≡ continued before came
  now_is =
      ap (λ (n : ℕ). state p n tail sums) (sym up_to_now)
      ∙ (held-fed came_feeds (omega (arith, came_long, first-words, fill_less feed)) feed.tails came_at).state-is

  before_passed : Passed before
  before_passed = passed before before_passes

  came_fits : first + length came ≤ most
  came_fits = omega (arith, up_to_now, is-passed.short)

  -- the word, whole
  word-is : (tail' : List ℕ) → Held a (k % p.width) tail tail' → part 0 p.width tail' ≡ came ++ a
  word-is tail' e =
      ext_get_or 0 (part 0 p.width tail') (came ++ a)
      (part_long ∙ sym (length-append came a ∙ omega (arith, came_long, end)))
      (λ i l. by i (omega (arith, part_long)) (dec_lt i (k % p.width)))
    where
      tail_long : length tail' ≡ 8
      tail_long = ap length e ∙ length-stores tail (k % p.width) (length a) _ ∙ feed.tails

      part_long : length (part 0 p.width tail') ≡ p.width
      part_long = length_part 0 p.width tail' (omega arith) (omega (arith, tail_long, sane.narrow)) ∙ omega arith

      at : (i : ℕ) → i < p.width → get_or (part 0 p.width tail') i 0 ≡ get_or (stores tail (k % p.width) (length a) (λ j. get_or a j 0)) i 0
      at i h = part_at 0 p.width tail' i (omega arith) ∙ ap (λ (n : ℕ). get_or tail' n 0) (zero-add i) ∙ ap (λ (l : List ℕ). get_or l i 0) e

      by : (i : ℕ) → i < p.width → Dec (i < k % p.width) → get_or (part 0 p.width tail') i 0 ≡ get_or (came ++ a) i 0
      by i h (yes l) =
          at i h
          ∙ stores_rest tail (k % p.width) (length a) _ i (λ q. omega arith)
          ∙ sym (get_or-append came a 0 i (rw came_long l) ∙ part_at 0 (k % p.width) tail i (omega arith) ∙ ap (λ (n : ℕ). get_or tail n 0) (zero-add i))
      by i h (no m) =
          let there : k % p.width + (i - k % p.width) ≡ i = omega arith in
          let past : length came + (i - k % p.width) ≡ i = omega (arith, came_long) in
          at i h
          ∙ (rw there at (stores_at tail (k % p.width) (length a) (λ j. get_or a j 0) (i - k % p.width) (omega (arith, end)) (omega (arith, feed.tails, end, sane.narrow))))
          ∙ sym (rw past at (get_or-append-add came a (i - k % p.width) 0))

  pub word-feeds : (tail' : List ℕ) → Held a (k % p.width) tail tail' → WordsFeed p first (part 0 p.width tail') sums old
  word-feeds tail' e = record {
    feeds = record {
      passes = before_passes;
      tails = before_shaped.tails;
      sums = feed.sums;
      fits = omega (arith, long, end, up_to_now, came_long, feed.fits);
      room = omega (arith, cut-long before before_passed before_shaped came a came_fits, came_quiet, ap (λ (l : List ℕ). completes before (length l)) (word-is tail' e), ap (λ (x : Packets). completes x (length a)) now_is, feed.room);
    };
    begins = first-words;
    words = rw long (mod_self p.width);
  }
    where
      long : length (part 0 p.width tail') ≡ p.width
      long = ap length (word-is tail' e) ∙ length-append came a ∙ omega (arith, came_long, end)

  pub finish_fed : (tail' : List ℕ) → Held a (k % p.width) tail tail' → {sums' new : List ℕ} → WordsFed p first (part 0 p.width tail') sums old sums' new → BytesFed p k a tail sums old no_tail sums' new
  finish_fed tail' e {sums'} {new} whole =
      let fed : Fed before (came ++ a) old (state p (first + length (came ++ a)) no_tail sums') new =
      subst (λ (l : List ℕ). Fed before l old (state p (first + length l) no_tail sums') new) (word-is tail' e) whole in
      let same : k + length a ≡ first + length (came ++ a) = omega (arith, length-append came a, up_to_now) in
      let bytes : completes now_state (length a) ≡ completes before (length (came ++ a)) =
      ap (λ (x : Packets). completes x (length a)) now_is ∙ omega (arith, cut-long before before_passed before_shaped came a came_fits, came_quiet) in
      record {
        state-is = ap (λ (n : ℕ). state p n no_tail sums') same ∙ fed.state-is ∙ sym (cut-state before before_passed before_shaped came a came_fits) ∙ ap (λ (x : Packets). continued x a) (sym now_is);
        wrote =
            fed.wrote
            ∙ ap (λ (n : ℕ). filled n (continued_at before (came ++ a)) old) (sym bytes)
            ∙ filled-same (completes now_state (length a)) (continued_at before (came ++ a)) (continued_at now_state a) old (λ i h.
            ap (λ (n : ℕ). continued_at before (came ++ a) n) (omega (arith, came_quiet))
            ∙ sym (cut-back before before_passed before_shaped came a came_fits i (subst (λ (x : Packets). i < completes x (length a)) now_is h))
            ∙ ap (λ (x : Packets). continued_at x a i) (sym now_is));
      }
