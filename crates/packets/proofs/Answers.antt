-- How a piece's promise and a start's are met. Assumes nothing.
use Rattle.std.specs.Prelude.{Ok, Err}
use mathlib.Core.Path.{◌≡◌, sym, ap, ◌∙◌}
use mathlib.Core.Bool.{not}
use mathlib.Core.List.{List, [], ◌++◌}
use Prim.Native.Nat.{ℕ, ◌+◌, ◌≤◌}
use borrow.Author.Tests.{eq-eqb, ltb-false}
use lib.ListN.{length}
use Rattle.answer.specs.Outcome.{Outcome, done, refused, unless, First, later, Sound, next, Promise, outcome, Answer}
use Rattle.answer.specs.Table.{table}
use Rattle.answer.specs.declared.Refusal.{Refusal}
use Rattle.answer.proofs.Filling.{whole, length-table}
use Rattle.answer.proofs.Promised.{first-refused, sound-done, done-sound, sound-here, sound_rest}
use Rattle.samples.specs.Promises.{strip_faults}
use Rattle.packets.specs.declared.Packets.{Packets}
use Rattle.packets.specs.declared.Started.{Started}
use Rattle.packets.specs.declared.Stepped.{Stepped}
use Rattle.packets.specs.declared.Plan.{Plan}
use Rattle.packets.specs.State.{geometry, tail_at, sum_at, tail_of, sums_of, state_at, behind, most}
use Rattle.packets.specs.Promises.{nowhere, state, Begun, completes, piece_faults, continued_at, continued, Took, lent_faults, lent_taking, TookLent}
use Rattle.packets.specs.Steps.{Fed}

-- lists of a state's lengths: the faults are a piece's
module _ (st : Packets) (piece old : List ℕ) (tails : length st.tail ≡ 8) (sums : length st.sums ≡ 64) where
  pub lent-first : {n : ℕ} → First (piece_faults st piece old) n → First (lent_faults st piece old) n
  lent-first first = later (ap not (eq-eqb (length st.tail) 8 tails)) (later (ap not (eq-eqb (length st.sums) 64 sums)) first)

  pub lent-sound : Sound (piece_faults st piece old) → Sound (lent_faults st piece old)
  lent-sound sound = next (ap not (eq-eqb (length st.tail) 8 tails)) (next (ap not (eq-eqb (length st.sums) 64 sums)) sound)

module _ {st : Packets} {piece old : List ℕ} {answer : Answer ℕ} where
  pub lent-refused : {n : ℕ} → First (lent_faults st piece old) n → outcome answer ≡ refused n → TookLent st piece old answer st.tail st.sums old
  lent-refused {n} first e =
      let o : lent_taking st piece old ≡ refused n = first-refused (completes st (length piece)) first in
      record { writes = record { answers = e ∙ sym o; leaves = rw o }; tails = rw o; sums_are = rw o }

  pub lent-done : {tail sums new : List ℕ} → Sound (lent_faults st piece old) → outcome answer ≡ done (completes st (length piece)) → Fed st piece old (state st.plan (st.received + length piece) tail sums) new → TookLent st piece old answer tail sums new
  lent-done {tail} {sums} {new} sound e fed =
      let n = completes st (length piece) in
      let o : lent_taking st piece old ≡ done n = sound-done n sound in
      record {
        writes = record { answers = e ∙ sym o; leaves = rw o (fed.wrote ∙ whole n (continued_at st piece) old) };
        tails = rw o (ap (λ (x : Packets). x.tail) fed.state-is);
        sums_are = rw o (ap (λ (x : Packets). x.sums) fed.state-is);
      }

-- a state by value lends lists of a state's lengths
module _ (st : Packets) (piece old : List ℕ) (tails : length st.tail ≡ 8) (sums : length st.sums ≡ 64) {answer : Answer ℕ} {tail' sums' new : List ℕ} (is : TookLent st piece old answer tail' sums' new) where
  abbrev taking : Outcome ℕ
  taking = unless (piece_faults st piece old) (completes st (length piece))

  lent_same : lent_taking st piece old ≡ taking
  lent_same = rw (eq-eqb (length st.tail) 8 tails, eq-eqb (length st.sums) 64 sums)

  wrote-same : Promise taking (table (completes st (length piece)) (continued_at st piece)) old (outcome answer) new
  wrote-same = rw lent_same at is.writes

  pub piece_refused : (kind : Refusal) → answer ≡ Err kind → Took st piece old (record { state = st; answer = Err kind }) new
  piece_refused kind e = record { writes = rw e at wrote-same; state = rw (sym wrote-same.answers ∙ ap outcome e) }

  module _ {n : ℕ} (e : answer ≡ Ok n) where
    finished : taking ≡ done n
    finished = sym wrote-same.answers ∙ ap outcome e

    pub piece_fits : st.received + length piece ≤ most
    piece_fits = ltb-false most (st.received + length piece) (sound-here (sound_rest (done-sound (piece_faults st piece old) (completes st (length piece)) n finished)))

    tail_is : tail' ≡ (continued st piece).tail
    tail_is = rw (lent_same, finished) at is.tails

    sums-is : sums' ≡ (continued st piece).sums
    sums-is = rw (lent_same, finished) at is.sums_are

    pub piece_lengths : (length tail' ≡ 8) × (length sums' ≡ 64)
    unfolding state_at tail_of sums_of
    piece_lengths =
        let strip = behind st ++ piece in
        let end = st.received + length piece in
        (ap length tail_is ∙ length-table 8 (tail_at st.plan strip end), ap length sums-is ∙ length-table 64 (sum_at st.plan strip end))

    rejoined : {tail sums : List ℕ} → tail ≡ (continued st piece).tail → sums ≡ (continued st piece).sums → state st.plan (st.received + length piece) tail sums ≡ continued st piece
    unfolding state_at
    rejoined t s = rw (t, s)

    pub piece_done : Took st piece old (record { state = state st.plan (st.received + length piece) tail' sums'; answer = Ok n }) new
    piece_done = record {
      writes = rw e at wrote-same;
      state = rw finished (rejoined tail_is sums-is);
    }

pub took_done : {st : Packets} {piece old : List ℕ} {r : Stepped} {new : List ℕ} → Sound (piece_faults st piece old) → outcome r.answer ≡ done (completes st (length piece)) → Fed st piece old r.state new → Took st piece old r new
took_done {st} {piece} {old} {r} {new} sound e fed =
    let n = completes st (length piece) in
    let o : unless (piece_faults st piece old) n ≡ done n = sound-done n sound in
    record { writes = record { answers = e ∙ sym o; leaves = rw o (fed.wrote ∙ whole n (continued_at st piece) old) }; state = rw o fed.state-is }

module _ {p : Plan} {r : Started} where
  pub begun-refused : {n : ℕ} → First (strip_faults 0 (geometry p)) n → outcome r.answer ≡ refused n → r.state ≡ nowhere → Begun p r
  begun-refused {n} first e same =
      let o : unless (strip_faults 0 (geometry p)) (tt {0}) ≡ refused n = first-refused (tt {0}) first in
      record { answers = e ∙ sym o; state = rw o same }

  pub begun-done : Sound (strip_faults 0 (geometry p)) → outcome r.answer ≡ done (tt {0}) → r.state ≡ state_at p [] 0 → Begun p r
  begun-done sound e same =
      let o : unless (strip_faults 0 (geometry p)) (tt {0}) ≡ done (tt {0}) = sound-done (tt {0}) sound in
      record { answers = e ∙ sym o; state = rw o same }
