-- `reached_exactly`: a state passes the check if and only if a start and pieces lead to it. Assumes nothing.
use Rattle.std.specs.Prelude.{Ok}
use Prim.{Unit}
use mathlib.Core.Path.{◌≡◌, refl, sym, ap, ◌∙◌, subst}
use mathlib.Core.Bool.{Bool, true, false, not, ◌||◌}
use mathlib.Core.List.{List, [], ◌++◌}
use Prim.Native.Nat.{ℕ, zero, suc, ◌+◌, ◌-◌, ◌*◌, ◌/◌, ◌%◌, ◌≤◌, ◌<◌}
use native.Mathlib.Nat.{zero-add, mod-lt, mod-le}
use native.Mathlib.Decide.{dec_lt}
use native.Mathlib.Omega.{arith}
use borrow.Author.Tests.{lt-ltb, le-ltb, eq-eqb}
use lib.Dec.{ltb, eqb}
use lib.ListN.{length, get_or, length-append}
use Rattle.answer.specs.Outcome.{instead, pick, Sound, next, none, done, outcome}
use Rattle.answer.specs.Table.{table, filled}
use Rattle.answer.proofs.Filling.{length-table, table_at}
use Rattle.answer.proofs.Promised.{done-sound, sound-here, sound_rest}
use Rattle.words.specs.Word.{Bytes, modulus, ordered}
use Rattle.words.proofs.Digits.{digit_below}
use Rattle.words.proofs.Words.{modulus_pos}
use Rattle.samples.specs.Sample.{stored_at}
use Rattle.samples.specs.Promises.{strip_faults}
use Rattle.samples.proofs.Undo.{sample_below}
use Rattle.packets.specs.declared.Packets.{Packets}
use Rattle.packets.specs.declared.Started.{Started}
use Rattle.packets.specs.declared.Stepped.{Stepped}
use Rattle.packets.specs.declared.Plan.{Plan}
use Rattle.packets.specs.State.{geometry, per_row, sample_of, latest, tail_at, sum_at, tail_of, sums_of, state_at, most, tail_right, sum_right, tails_right, sums_right, consistent, behind}
use Rattle.packets.specs.Promises.{Begun, Took, Reached, begun, went, piece_faults, completes, continued_at, continued, nowhere}
use Rattle.laws.proofs.Turns.{every-all}
use Rattle.packets.proofs.Latest.{latest-none}
use Rattle.packets.proofs.Bytewise.{Sane}
use Rattle.laws.proofs.Lists.{past_end}
use Rattle.packets.proofs.Behind.{Passed, passed, Shaped, sane_sound, behind-length, behind_leads}
use Rattle.packets.proofs.Checking.{sound-clear}
use Rattle.packets.proofs.Answers.{took_done, begun-done}
use lib.ListN.{get_or-append}
use lib.Seq.{get_or-append-add}
use borrow.Author.Tests.{ltb-false}
use Rattle.answer.specs.Outcome.{Outcome}
use Rattle.packets.proofs.Future.{continued_any}

latest_below : (channels : ℕ) (v : ℕ → ℕ) (m j top : ℕ) → 0 < top → ((i : ℕ) → v i < top) → latest channels v m j < top
latest_below channels v zero j top some h = some
latest_below channels v (suc m) j top some h = by (eqb (m % channels) j) (latest_below channels v m j top some h)
  where
    by : (b : Bool) → latest channels v m j < top → pick b (v m) (latest channels v m j) < top
    by true l = h m
    by false l = l

-- wherever bytes lead, the check passes
module _ (p : Plan) (sound : Sound (strip_faults 0 (geometry p))) (s : List ℕ) (k : ℕ) (short : k ≤ most) where
  abbrev W : ℕ
  W = p.width

  abbrev C : ℕ
  C = p.channels

  abbrev P : ℕ
  P = per_row p

  is : Sane p
  is = sane_sound p sound

  tail_fine : tails_right (tail_of p s k) (k % W) ≡ true
  unfolding tails_right tail_of tail_at
  tail_fine = every-all 8 (tail_right (table 8 (tail_at p s k)) (k % W)) (λ j h. by j h (dec_lt j (k % W)))
    where
      by : (j : ℕ) → j < 8 → Dec (j < k % W) → (ltb j (k % W) || eqb (get_or (table 8 (tail_at p s k)) j 0) 0) ≡ true
      by j h (yes l) = rw (lt-ltb j (k % W) l)
      by j h (no m) = rw (table_at 8 (tail_at p s k) j h, le-ltb j (k % W) (omega arith))

  lives : ℕ
  lives = pick p.predict (pick (ltb (k / W % P) C) (k / W % P) C) 0

  sum-none : (j : ℕ) → lives ≤ j → sum_at p s k j ≡ 0
  unfolding sum_at lives
  sum-none j h = by p.predict h
    where
      by : (b : Bool) → pick b (pick (ltb (k / W % P) C) (k / W % P) C) 0 ≤ j → pick b (latest C (λ i. sample_of p s (k / W / P * P + i)) (k / W % P) j) 0 ≡ 0
      by false l = refl
      by true l = either (dec_lt (k / W % P) C)
        where
          either : Dec (k / W % P < C) → latest C (λ i. sample_of p s (k / W / P * P + i)) (k / W % P) j ≡ 0
          either (yes a) = let up : k / W % P ≤ j = rw (lt-ltb (k / W % P) C a) at l in latest-none C _ j (k / W % P) (λ i b e. omega (arith, mod-le i C))
          either (no a) =
              let up : C ≤ j = rw (le-ltb (k / W % P) C (omega arith)) at l in latest-none C _ j (k / W % P) (λ i b e. omega (arith, mod-lt i is.good.channel))

  sum_small : (j : ℕ) → sum_at p s k j < modulus W
  unfolding sum_at
  sum_small j = by p.predict
    where
      by : (b : Bool) → pick b (latest C (λ i. sample_of p s (k / W / P * P + i)) (k / W % P) j) 0 < modulus W
      by false = modulus_pos W
      by true = latest_below C _ (k / W % P) j (modulus W) (modulus_pos W) (λ i. sample_below (geometry p) p.predict p.le s is.good.channel (k / W / P * P + i))

  sums_fine : sums_right (sums_of p s k) W lives ≡ true
  unfolding sums_right sums_of
  sums_fine = every-all 64 (sum_right (table 64 (sum_at p s k)) W lives) (λ j h. by j h (dec_lt j lives))
    where
      by : (j : ℕ) → j < 64 → Dec (j < lives) → pick (ltb j lives) (ltb (get_or (table 64 (sum_at p s k)) j 0) (modulus W)) (eqb (get_or (table 64 (sum_at p s k)) j 0) 0) ≡ true
      by j h (yes l) = rw (lt-ltb j lives l, table_at 64 (sum_at p s k) j h) (lt-ltb (sum_at p s k j) (modulus W) (sum_small j))
      by j h (no m) = rw (le-ltb j lives (omega arith), table_at 64 (sum_at p s k) j h) (eq-eqb (sum_at p s k j) 0 (sum-none j (omega arith)))

  pub state-passes : consistent (state_at p s k) ≡ true
  unfolding consistent state_at lives
  state-passes = rw (sound-clear sound, le-ltb most k short, tail_fine, sums_fine)

pub shaped_at : (p : Plan) (s : List ℕ) (k : ℕ) → Shaped (state_at p s k)
unfolding state_at tail_of sums_of
shaped_at p s k = record { tails = length-table 8 (tail_at p s k); sums = length-table 64 (sum_at p s k) }

-- bytes that lead to a state
pub record History (st : Packets) : Type 0 where
  pub came : List ℕ
  pub bytes : Bytes came
  pub sound : Sound (strip_faults 0 (geometry st.plan))
  pub short : st.received ≤ most
  pub long : length came ≡ st.received
  pub leads : state_at st.plan came st.received ≡ st

history_at : (p : Plan) → Sound (strip_faults 0 (geometry p)) → (s : List ℕ) → Bytes s → (k : ℕ) → length s ≡ k → k ≤ most → History (state_at p s k)
unfolding state_at
history_at p sound s b k long short = record { came = s; bytes = b; sound = sound; short = short; long = long; leads = refl }

pub bytes_join : (s t : List ℕ) → Bytes s → Bytes t → Bytes (s ++ t)
bytes_join s t a b i = by (dec_lt i (length s))
  where
    by : Dec (i < length s) → get_or (s ++ t) i 0 < 256
    by (yes l) = rw (get_or-append s t 0 i l) (a i)
    by (no m) =
        let past : length s + (i - length s) ≡ i = omega arith in
        let there : get_or (s ++ t) i 0 ≡ get_or t (i - length s) 0 = rw past at (get_or-append-add s t (i - length s) 0) in
        rw there (b (i - length s))

pub history_shaped : (st : Packets) → History st → Shaped st
history_shaped st h = subst Shaped h.leads (shaped_at st.plan h.came st.received)

pub history_passes : (st : Packets) → History st → consistent st ≡ true
history_passes st h = ap consistent (sym h.leads) ∙ state-passes st.plan h.sound h.came st.received h.short

-- what a call that did not refuse shows
pub begun-state : {p : Plan} {r : Started} → Begun p r → outcome r.answer ≡ done tt → Sound (strip_faults 0 (geometry p)) × (r.state ≡ state_at p [] 0)
begun-state {p} {r} b e =
    let o = sym b.answers ∙ e in
    (done-sound (strip_faults 0 (geometry p)) tt tt o, b.state ∙ ap (λ (x : Outcome (Unit {0})). instead x (state_at p [] 0) nowhere) o)

pub took_state : {st : Packets} {piece old new : List ℕ} {r : Stepped} {n : ℕ} → Took st piece old r new → outcome r.answer ≡ done n → Sound (piece_faults st piece old) × (r.state ≡ continued st piece)
took_state {st} {piece} {old} {new} {r} {n} t e =
    let o = sym t.writes.answers ∙ e in
    (done-sound (piece_faults st piece old) (completes st (length piece)) n o, t.state ∙ ap (λ (x : Outcome ℕ). instead x (continued st piece) st) o)

-- a history goes on with a piece
pub history_on : (st : Packets) (h : History st) (piece : List ℕ) → Bytes piece → st.received + length piece ≤ most → History (continued st piece)
history_on st h piece b fits =
    subst History (sym (continued_any st (passed st (history_passes st h)) (history_shaped st h) h.came h.leads h.long piece))
    (history_at st.plan h.sound (h.came ++ piece) (bytes_join h.came piece h.bytes b) (st.received + length piece) (length-append h.came piece ∙ rw h.long) fits)

pub took_fits : (st : Packets) (piece old : List ℕ) → Sound (piece_faults st piece old) → st.received + length piece ≤ most
took_fits st piece old sound = ltb-false most (st.received + length piece) (sound-here (sound_rest sound))

pub history : {st : Packets} → Reached st → History st
history (begun b e) =
    let is = begun-state b e in subst History (sym is.1) (history_at _ is.0 [] (λ i. omega arith) 0 refl (omega arith))
history (went {st} {piece} {old} reached b t e) =
    let is = took_state t e in subst History (sym is.1) (history_on st (history reached) piece b (took_fits st piece old is.0))

-- every state that passes is one piece after a start
module _ (st : Packets) (shaped : Shaped st) (bytes : Bytes st.tail) (e : consistent st ≡ true) where
  ok : Passed st
  ok = passed st e

  abbrev first : Packets
  first = state_at st.plan [] 0

  bytes-behind : Bytes (behind st)
  unfolding behind
  bytes-behind i = by (dec_lt i st.received)
    where
      small : (b : Bool) → pick b (stored_at st.plan.width st.plan.le (λ n. get_or st.sums (n % (st.plan.row_bytes / st.plan.width)) 0) i) (get_or st.tail (i % st.plan.width) 0) < 256
      small true = digit_below 256 (ordered st.plan.le st.plan.width (i % st.plan.width)) (get_or st.sums (i / st.plan.width % (st.plan.row_bytes / st.plan.width)) 0) (omega arith)
      small false = bytes (i % st.plan.width)

      by : Dec (i < st.received) → get_or (behind st) i 0 < 256
      by (yes l) = rw (table_at st.received _ i l) (small (ltb i (st.received / st.plan.width * st.plan.width)))
      by (no m) = rw (past_end (behind st) i (omega (arith, behind-length st ok shaped))) (omega arith)

  start_passes : consistent first ≡ true
  start_passes = state-passes st.plan ok.sound [] 0 (omega arith)

  room : List ℕ
  room = table (completes first (length (behind st))) (λ k. 0)

  one_piece : Took first (behind st) room (record { state = continued first (behind st); answer = Ok (completes first (length (behind st))) }) (filled (completes first (length (behind st))) (continued_at first (behind st)) room)
  unfolding state_at room
  one_piece =
      let fits : 0 + length (behind st) ≤ most = omega (arith, behind-length st ok shaped, ok.short) in
      let n = completes first (length (behind st)) in
      took_done
      (next (ap not start_passes) (next (le-ltb most (0 + length (behind st)) fits) (next (le-ltb (length room) n (omega (arith, length-table n (λ k. 0)))) none)))
      refl
      (record { state-is = refl; wrote = refl })

  leads_there : continued first (behind st) ≡ st
  unfolding state_at
  leads_there =
      continued_any first (passed first start_passes) (shaped_at st.plan [] 0) [] refl refl (behind st)
      ∙ rw (zero-add (length (behind st)), behind-length st ok shaped) (behind_leads st ok shaped)

  pub passes_reached : Reached st
  passes_reached =
      subst Reached leads_there
      (went {n = completes first (length (behind st))}
      (begun {p = st.plan} {r = record { state = first; answer = (Ok tt) }} (begun-done ok.sound refl refl) refl)
      bytes-behind one_piece refl)

-- a state that has the numbers of its type passes the check if and only if a start and pieces lead to it
pub reached_exactly : (st : Packets) → Shaped st → Bytes st.tail → (consistent st ≡ true → Reached st) × (Reached st → consistent st ≡ true)
reached_exactly st shaped bytes = (passes_reached st shaped bytes, λ r. history_passes st (history r))
