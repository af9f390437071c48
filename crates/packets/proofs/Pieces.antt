-- `pieces_convert` and `cut_anywhere`. Assumes nothing.
use Rattle.std.specs.Prelude.{Ok}
use mathlib.Core.Path.{◌≡◌, refl, sym, ap, ◌∙◌, subst}
use mathlib.Core.Bool.{true, not}
use mathlib.Core.List.{List, ◌++◌}
use Prim.Native.Nat.{ℕ, ◌+◌, ◌*◌, ◌/◌, ◌%◌, ◌≤◌}
use native.Mathlib.Nat.{zero-div, zero-mul, div-add-mod', div-lt_iff_lt-mul}
use native.Mathlib.Omega.{arith}
use borrow.Author.Tests.{le-ltb, eqb-true, eq-eqb, not-false}
use lib.Dec.{eqb}
use lib.ListN.{length, take, drop, length-append, get_or-append}
use Rattle.answer.specs.Outcome.{Outcome, done, unless, Sound, next, none, Promise, outcome}
use Rattle.answer.specs.Table.{table}
use Rattle.answer.proofs.Filling.{length-table, table_same, table_join}
use Rattle.answer.proofs.Promised.{writes, passed, sound-here, sound_rest, sound_more, sound-done, finishes}
use Rattle.words.specs.Digits.{digit}
use Rattle.words.specs.Word.{Bytes, ordered}
use Rattle.samples.specs.Sample.{stored_at}
use Rattle.samples.specs.declared.Strip.{Strip}
use Rattle.samples.specs.Promises.{strip_faults, convert_faults, Converted}
use Rattle.samples.proofs.Strips.{bytes-words, good_checked}
use Rattle.packets.specs.declared.Packets.{Packets}
use Rattle.packets.specs.declared.Stepped.{Stepped}
use Rattle.packets.specs.declared.Plan.{Plan}
use Rattle.packets.specs.State.{geometry, sample_of, state_at, consistent, most}
use Rattle.packets.specs.Promises.{Took, Closed, close_faults, piece_faults, completes, continued_at, continued, joined, Reached, Streamed, opened, fed}
use Rattle.packets.proofs.Bytewise.{Sane}
use Rattle.packets.proofs.Agree.{sample_agrees}
use Rattle.packets.proofs.Behind.{Passed, Shaped, sane_sound}
use Rattle.packets.proofs.Behind as B
use Rattle.packets.proofs.Cut.{completes_end, cut-state, cut-front, cut-back, cut-long}
use Rattle.packets.proofs.Future.{continued_any, continued_at_any}
use Rattle.packets.proofs.Reaches.{History, history_on, history_passes, history_shaped, history, begun-state, bytes_join, took_state, took_fits}

-- what is written of a strip when its first k bytes have come: its whole samples, stored
abbrev pub stored_upto : Plan → List ℕ → ℕ → List ℕ
stored_upto p s k = table (k / p.width * p.width) (stored_at p.width p.out_le (sample_of p s))

-- a strip's whole samples stay when it goes on
pub stored-stays : (p : Plan) → Sane p → (s t : List ℕ) → stored_upto p (s ++ t) (length s) ≡ stored_upto p s (length s)
stored-stays p is s t =
    let W = p.width in
    table_same (length s / W * W) _ _ (λ i h.
    ap (digit 256 (ordered p.out_le W (i % W)))
    (sample_agrees p is (s ++ t) s (length s) (λ j l. get_or-append s t 0 j l) (i / W) ((div-lt_iff_lt-mul {k = W} {x = i} {y = length s / W} is.good.wide).1 h)))

-- what a piece writes, beside a history of its state
module _ (st : Packets) (h : History st) (piece : List ℕ) where
  abbrev p : Plan
  p = st.plan

  abbrev W : ℕ
  W = st.plan.width

  abbrev k : ℕ
  k = st.received

  abbrev written : List ℕ
  written = table (completes st (length piece)) (continued_at st piece)

  same : Sane p
  same = sane_sound p h.sound

  -- put behind what was written of the history, it is what is written of the whole
  pub written_on : stored_upto p h.came k ++ written ≡ stored_upto p (h.came ++ piece) (k + length piece)
  written_on =
      let f = stored_at W st.plan.out_le (sample_of p (h.came ++ piece)) in
      let front : stored_upto p h.came k ≡ table (k / W * W) f = sym (rw h.long at (stored-stays p same h.came piece)) in
      let back : written ≡ table (completes st (length piece)) (λ i. f (k / W * W + i)) =
      table_same (completes st (length piece)) (continued_at st piece) (λ i. f (k / W * W + i)) (continued_at_any st (B.passed st (history_passes st h)) (history_shaped st h) h.came h.leads h.long piece) in
      rw (front, back) (table_join (k / W * W) (completes st (length piece)) f ∙ ap (λ (n : ℕ). table n f) (completes_end st same.good.wide (length piece)))

-- what a piece writes in a state
abbrev pub written_by : Packets → List ℕ → List ℕ
written_by st piece = table (completes st (length piece)) (continued_at st piece)

-- a strip s, and a piece after it
module _ (p : Plan) (sound : Sound (strip_faults 0 (geometry p))) where
  after-state : (s : List ℕ) → Bytes s → length s ≤ most → (piece : List ℕ) → continued (state_at p s (length s)) piece ≡ state_at p (s ++ piece) (length (s ++ piece))
  unfolding state_at
  after-state s b short piece =
      let st = state_at p s (length s) in
      let h : History st = record { came = s; bytes = b; sound = sound; short = short; long = refl; leads = refl } in
      continued_any st (B.passed st (history_passes st h)) (history_shaped st h) s refl refl piece ∙ ap (state_at p (s ++ piece)) (sym (length-append s piece))

  after-written : (s : List ℕ) → Bytes s → length s ≤ most → (piece : List ℕ) → stored_upto p s (length s) ++ written_by (state_at p s (length s)) piece ≡ stored_upto p (s ++ piece) (length (s ++ piece))
  unfolding state_at
  after-written s b short piece =
      let st = state_at p s (length s) in
      let h : History st = record { came = s; bytes = b; sound = sound; short = short; long = refl; leads = refl } in
      written_on st h piece ∙ ap (stored_upto p (s ++ piece)) (sym (length-append s piece))

-- what a call that did not refuse wrote
pub took_written : {st : Packets} {piece old new : List ℕ} {r : Stepped} {n : ℕ} → Took st piece old r new → outcome r.answer ≡ done n → take n new ≡ written_by st piece
took_written {st} {piece} {old} {new} {r} {n} t e =
    let m = completes st (length piece) in
    let all : unless (piece_faults st piece old) m ≡ done m = sound-done m (took_state t e).0 in
    let o : done m ≡ done n = sym all ∙ sym t.writes.answers ∙ e in
    let same : m ≡ n = cc in
    let long : length (written_by st piece) ≡ n = length-table m (continued_at st piece) ∙ same in
    rw long at (writes n new (subst (λ (x : Outcome ℕ). Promise (unless (piece_faults st piece old) m) (written_by st piece) old x new) e t.writes))

received_is : (p : Plan) (s : List ℕ) (st : Packets) → st ≡ state_at p s (length s) → st.received ≡ length s
unfolding state_at
received_is p s st e = ap (λ (x : Packets). x.received) e

rows_whole : (p : Plan) (s : List ℕ) (st : Packets) → st ≡ state_at p s (length s) → st.received % st.plan.row_bytes ≡ 0 → length s % p.row_bytes ≡ 0
unfolding state_at
rows_whole p s st e h = rw e at h

-- what a piece writes is what its parts write
module _ (st : Packets) (ok : Passed st) (shaped : Shaped st) (a b : List ℕ) (fits : st.received + length a ≤ most) where
  cut-written : written_by st (a ++ b) ≡ written_by st a ++ written_by (continued st a) b
  cut-written =
      let f = continued_at st (a ++ b) in
      let n = completes st (length a) in
      let m = completes (continued st a) (length b) in
      let front : written_by st a ≡ table n f = table_same n (continued_at st a) f (cut-front st ok shaped a b fits) in
      let back : written_by (continued st a) b ≡ table m (λ i. f (n + i)) = table_same m (continued_at (continued st a) b) (λ i. f (n + i)) (cut-back st ok shaped a b fits) in
      rw (front, back) (sym (table_join n m f ∙ ap (λ (x : ℕ). table x f) (cut-long st ok shaped a b fits)))

-- of three calls that did not refuse
cut-done : {st : Packets} {a b old new old₁ new₁ old₂ new₂ : List ℕ} {r r₁ r₂ : Stepped} {n n₁ n₂ : ℕ} → Reached st → Took st (a ++ b) old r new → outcome r.answer ≡ done n → Took st a old₁ r₁ new₁ → outcome r₁.answer ≡ done n₁ → Took r₁.state b old₂ r₂ new₂ → outcome r₂.answer ≡ done n₂ → (r.state ≡ r₂.state) × (take n new ≡ take n₁ new₁ ++ take n₂ new₂)
cut-done {st} {a} {b} {old₁ = old₁} reached t e t₁ e₁ t₂ e₂ =
    let h = history reached in
    let ok = B.passed st (history_passes st h) in
    let shaped = history_shaped st h in
    let fits = took_fits st a old₁ (took_state t₁ e₁).0 in
    let state₁ = (took_state t₁ e₁).1 in (
      (took_state t e).1 ∙ sym (cut-state st ok shaped a b fits) ∙ ap (λ (x : Packets). continued x b) (sym state₁) ∙ sym (took_state t₂ e₂).1,
      took_written t e ∙ cut-written st ok shaped a b fits ∙ rw (took_written t₁ e₁, took_written t₂ e₂, state₁),
    )

-- a call on a state that passes the check, within the limit and with room, does not refuse
pub taken : {st : Packets} {piece old new : List ℕ} {r : Stepped} → Took st piece old r new → consistent st ≡ true → st.received + length piece ≤ most → completes st (length piece) ≤ length old → outcome r.answer ≡ done (completes st (length piece))
taken {st} {piece} {old} t e fits room =
    t.writes.answers
    ∙ sound-done (completes st (length piece)) (next (ap not e) (next (le-ltb most (st.received + length piece) fits) (next (le-ltb (length old) (completes st (length piece)) room) none)))

-- a piece and, in its place, its two parts: none of the calls refuses, and they come to the same state and the same bytes
pub record SameCut (st : Packets) (a b new new₁ new₂ : List ℕ) (r r₁ r₂ : Stepped) : Type 0 where
  pub whole_taken : outcome r.answer ≡ done (completes st (length (a ++ b)))
  pub first_taken : outcome r₁.answer ≡ done (completes st (length a))
  pub second_taken : outcome r₂.answer ≡ done (completes r₁.state (length b))
  pub same-state : r.state ≡ r₂.state
  pub same_bytes : take (completes st (length (a ++ b))) new ≡ take (completes st (length a)) new₁ ++ take (completes r₁.state (length b)) new₂

later-fits : (st x : Packets) (a b : List ℕ) → x ≡ continued st a → st.received + length (a ++ b) ≤ most → x.received + length b ≤ most
unfolding state_at
later-fits st x a b e fits = omega (arith, ap (λ (y : Packets). y.received) e, length-append a b)

-- a piece cut in two, within the limit and with room
pub cut_anywhere : {st : Packets} {a b old new old₁ new₁ old₂ new₂ : List ℕ} {r r₁ r₂ : Stepped} → Reached st → Bytes a → st.received + length (a ++ b) ≤ most → Took st (a ++ b) old r new → completes st (length (a ++ b)) ≤ length old → Took st a old₁ r₁ new₁ → completes st (length a) ≤ length old₁ → Took r₁.state b old₂ r₂ new₂ → completes r₁.state (length b) ≤ length old₂ → SameCut st a b new new₁ new₂ r r₁ r₂
cut_anywhere {st} {a} {b} reached bytes fits t room t₁ room₁ t₂ room₂ =
    let h = history reached in
    let passes = history_passes st h in
    let first_fits : st.received + length a ≤ most = omega (arith, length-append a b) in
    let e = taken t passes fits room in
    let e₁ = taken t₁ passes first_fits room₁ in
    let there = (took_state t₁ e₁).1 in
    let next-passes = ap consistent there ∙ history_passes _ (history_on st h a bytes first_fits) in
    let e₂ = taken t₂ next-passes (later-fits st _ a b there fits) room₂ in
    let same = cut-done reached t e t₁ e₁ t₂ e₂ in
    record { whole_taken = e; first_taken = e₁; second_taken = e₂; same-state = same.0; same_bytes = same.1 }

-- what has come and been written so far
pub record SoFar (p : Plan) (s : List ℕ) (st : Packets) (out : List ℕ) : Type 0 where
  pub sound : Sound (strip_faults 0 (geometry p))
  pub bytes : Bytes s
  pub short : length s ≤ most
  pub state : st ≡ state_at p s (length s)
  pub written : out ≡ stored_upto p s (length s)

-- a strip that is still open: its whole samples so far are written
pub pieces_so_far : {p : Plan} {pieces : List (List ℕ)} {st : Packets} {out : List ℕ} → Streamed p pieces st out → SoFar p (joined pieces) st out
pieces_so_far {p} (opened b e) =
    let is = begun-state b e in
    record { sound = is.0; bytes = λ i. omega arith; short = omega arith; state = is.1; written = rw (zero-div p.width, zero-mul p.width) }
pieces_so_far {p} (fed {pieces} {st} {out} {piece} {old} {new} {r} {n} before bytes t e) =
    let far = pieces_so_far before in
    let s = joined pieces in
    let at = state_at p s (length s) in
    let fits : st.received + length piece ≤ most = took_fits st piece old (took_state t e).0 in
    let here : st.received ≡ length s = received_is p s st far.state in
    record {
      sound = far.sound;
      bytes = bytes_join s piece far.bytes bytes;
      short = rw (length-append s piece, ← here) fits;
      state = (took_state t e).1 ∙ ap (λ (x : Packets). continued x piece) far.state ∙ after-state p far.sound s far.bytes far.short piece;
      written = rw (took_written t e, far.written, far.state) (after-written p far.sound s far.bytes far.short piece);
    }

-- the strip check of a strip that is whole rows
pub whole-sound : (n : ℕ) (g : Strip) → n % g.row ≡ 0 → Sound (strip_faults 0 g) → Sound (strip_faults n g)
whole-sound n g e (next a (next b (next c (next d (next f rest))))) = next a (next b (next c (next d (next f (next (ap not (eq-eqb (n % g.row) 0 e)) none)))))

-- a strip that closes well: what was written, put end to end, is what `convert` writes of the pieces put end to end
pub pieces_convert : {p : Plan} {pieces : List (List ℕ)} {st : Packets} {out : List ℕ} → Streamed p pieces st out → Closed st (Ok tt) → (old : List ℕ) → length (joined pieces) ≤ length old → Converted (joined pieces) (geometry p) p.predict p.le p.out_le old (Ok tt) (out ++ drop (length out) old)
pieces_convert {p} {pieces} {st} {out} streamed closed old room =
    let far = pieces_so_far streamed in
    let s = joined pieces in
    let g = geometry p in
    let rest = sound-here (sound_rest (passed (close_faults st) (Ok tt) closed refl)) in
    let rows : length s % g.row ≡ 0 = rows_whole p s st far.state (eqb-true (st.received % st.plan.row_bytes) 0 (not-false (eqb (st.received % st.plan.row_bytes) 0) rest)) in
    let sound = whole-sound (length s) g rows far.sound in
    let all : length s / g.width * g.width ≡ length s = omega (arith, div-add-mod' (length s) g.width, bytes-words (length s) g (good_checked (length s) g sound)) in
    let f = stored_at g.width p.out_le (sample_of p s) in
    let is : out ≡ table (length s) f = far.written ∙ ap (λ (n : ℕ). table n f) all in
    finishes (convert_faults s g old) tt (length s) f old (out ++ drop (length out) old)
    (sound_more sound (next (le-ltb (length old) (length s) room) none))
    (rw (is, length-table (length s) f))
