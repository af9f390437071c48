-- Two loops in ordered, the second over the rest of the piece and of the buffer, are one loop. Assumes nothing.
use mathlib.Core.Path.{◌≡◌, refl, sym, ap, ◌∙◌, subst}
use mathlib.Core.List.{List, ◌++◌}
use Prim.Native.Nat.{ℕ, ◌+◌, ◌-◌, ◌≤◌}
use native.Mathlib.Omega.{arith}
use lib.ListN.{length, take, drop, length-append, length-drop, take-append-drop}
use lib.Seq.{take_all}
use Rattle.answer.specs.Table.{table, filled}
use Rattle.answer.proofs.Filling.{length-filled, table_same, filled-all, filled-same, part_filled, length_part}
use Rattle.packets.specs.declared.Packets.{Packets}
use Rattle.packets.specs.State.{state_at, most}
use Rattle.packets.specs.Promises.{completes, continued_at, continued}
use Rattle.packets.specs.Steps.{Feeds, Fed}
use Rattle.packets.proofs.Behind.{Passed, passed, Shaped}
use Rattle.packets.proofs.Cut.{cut-passes, cut_shaped, cut-state, cut-front, cut-back, cut-long, rest_filled}

module _ {st : Packets} {bytes old : List ℕ} (fits : Feeds st bytes old) (c h : ℕ) (inside : c ≤ length bytes) (e : h ≡ completes st c) where
  abbrev a : List ℕ
  a = take (c - 0) (drop 0 bytes)

  abbrev b : List ℕ
  b = take (length bytes - c) (drop c bytes)

  ok : Passed st
  ok = passed st fits.passes

  shaped : Shaped st
  shaped = record { tails = fits.tails; sums = fits.sums }

  a-long : length a ≡ c
  a-long = length_part 0 c bytes (omega arith) inside ∙ omega arith

  parts : a ++ b ≡ bytes
  parts =
      let none : c - 0 ≡ c = omega arith in
      let rest : b ≡ drop c bytes = take_all (length bytes - c) (drop c bytes) (omega (arith, length-drop c bytes)) in
      rw (none, rest) (take-append-drop c bytes)

  all-long : c + length b ≡ length bytes
  all-long = omega (arith, ap length parts, length-append a b, a-long)

  first_fits : st.received + length a ≤ most
  first_fits = omega (arith, a-long, fits.fits)

  wrote-a : completes st (length a) ≡ h
  wrote-a = ap (completes st) a-long ∙ sym e

  total : h + completes (continued st a) (length b) ≡ completes st (length bytes)
  total = ap (λ (n : ℕ). n + completes (continued st a) (length b)) (sym wrote-a) ∙ cut-long st ok shaped a b first_fits ∙ ap (λ (l : List ℕ). completes st (length l)) parts

  pub head_room : h ≤ length old
  head_room = omega (arith, total, fits.room)

  old_long : length (take (h - 0) (drop 0 old)) ≡ h
  old_long = length_part 0 h old (omega arith) head_room ∙ omega arith

  pub head_feeds : Feeds st a (take (h - 0) (drop 0 old))
  head_feeds = record { passes = fits.passes; tails = fits.tails; sums = fits.sums; fits = first_fits; room = omega (arith, old_long, wrote-a) }

  module _ {x : Packets} {new : List ℕ} (first : Fed st a (take (h - 0) (drop 0 old)) x new) where
    abbrev out : List ℕ
    out = take 0 old ++ (new ++ drop (h - 0) (drop 0 old))

    new_is : new ≡ table (h - 0) (λ i. continued_at st bytes (0 + i))
    new_is =
        let none : h - 0 ≡ h = omega arith in
        rw none
        (first.wrote
        ∙ ap (λ (n : ℕ). filled n (continued_at st a) (take (h - 0) (drop 0 old))) wrote-a
        ∙ filled-all h (continued_at st a) (take (h - 0) (drop 0 old)) (omega (arith, old_long))
        ∙ table_same h (continued_at st a) (λ i. continued_at st bytes (0 + i)) (λ i l.
        cut-front st ok shaped a b first_fits i (omega (arith, wrote-a)) ∙ (rw parts (ap (continued_at st bytes) (omega arith)))))

    pub out_filled : out ≡ filled h (continued_at st bytes) old
    out_filled = part_filled (continued_at st bytes) 0 h old old new (omega arith) refl new_is

    pub out_long : length out ≡ length old
    out_long = ap length out_filled ∙ length-filled h (continued_at st bytes) old head_room

    pub rest_room : h ≤ length out
    rest_room = omega (arith, out_long, head_room)

    abbrev left : List ℕ
    left = take (length out - h) (drop h out)

    left-long : length left ≡ length old - h
    left-long = length_part h (length out) out rest_room (omega arith) ∙ omega (arith, out_long)

    received_x : x.received ≡ st.received + c
    unfolding state_at
    received_x = ap (λ (y : Packets). y.received) first.state-is ∙ omega (arith, a-long)

    pub rest_feeds : Feeds x b left
    rest_feeds =
        let shape = subst Shaped (sym first.state-is) (cut_shaped st ok shaped a b first_fits) in
        record {
          passes = rw first.state-is (cut-passes st ok shaped a b first_fits);
          tails = shape.tails;
          sums = shape.sums;
          fits = omega (arith, received_x, all-long, fits.fits);
          room = omega (arith, left-long, total, fits.room, ap (λ (y : Packets). completes y (length b)) first.state-is);
        }

    pub both_fed : {y : Packets} {then : List ℕ} → Fed x b left y then → Fed st bytes old y (take h out ++ (then ++ drop (length out - h) (drop h out)))
    both_fed {y} {then} second =
        let m = completes (continued st a) (length b) in
        let is : then ≡ filled m (λ i. continued_at st bytes (h + i)) left =
        second.wrote
        ∙ ap (λ (z : Packets). filled (completes z (length b)) (continued_at z b) left) first.state-is
        ∙ filled-same m (continued_at (continued st a) b) (λ i. continued_at st bytes (h + i)) left (λ i l.
        cut-back st ok shaped a b first_fits i l ∙ rw (parts, wrote-a)) in
        record {
          state-is = second.state-is ∙ ap (λ (z : Packets). continued z b) first.state-is ∙ cut-state st ok shaped a b first_fits ∙ ap (continued st) parts;
          wrote =
              rest_filled (continued_at st bytes) h m (length out) old out then (omega (arith, out_long)) rest_room out_filled is
              ∙ ap (λ (n : ℕ). filled n (continued_at st bytes) old) total;
        }
