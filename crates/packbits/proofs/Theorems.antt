-- Rows that are written read back: by a plan that is accepted, and without one (rules 17.9 and 17.10). Assumes nothing.
use Rattle.std.specs.Prelude.{Ok}
use Prim.Native.Nat.{ℕ, ◌+◌, ◌-◌, ◌≤◌, ◌<◌}
use mathlib.Core.Path.{◌≡◌, refl, sym, ap, ◌∙◌}
use mathlib.Core.Bool.{Bool, true, false}
use mathlib.Core.List.{List, [], ◌∷◌, ◌++◌, append_assoc, append-nil}
use native.Mathlib.Omega.{arith}
use borrow.Author.Tests.{eqb-true, eqb-false, lt-ltb, le-ltb, not-false}
use lib.ListN.{length, get_or, take, drop, take-append-drop, length-drop, length-append, drop_of_length-le}
use lib.Seq.{drop_at, take_at, length-take-le}
use lib.Dec.{eqb}
use Rattle.answer.specs.Outcome.{Outcome, Sound, none, done, after, pick, Answer}
use Rattle.answer.proofs.Promised.{sound_more, writes, done-sound, done-value, sound-done, sound-here, sound_rest}
use Rattle.answer.proofs.Filling.{table_same}
use Rattle.laws.proofs.Lists.{own_front}
use Rattle.laws.proofs.Turns.{every_one}
use Rattle.laws.proofs.Says.{and_left, and_right}
use Rattle.packbits.specs.Rows.{fills, takes, Packet, header, behind, packets, packet_bytes, bytes_of, taken_by, row_faults, row_bytes, used, RowUnpacked}
use Rattle.packbits.specs.Plans.{Planned, plan_of, kept, keeps, packet_of, plan_bytes, plain_plan, literals_of, plan_faults, pack_faults, PlanWritten, RowPacked}
use Rattle.answer.proofs.Promised.{answer_once}
use Rattle.packbits.proofs.Packets.{copies, repeats, takes-some, goes_on, sound_packet}
use Rattle.packbits.proofs.Planning.{Kept, kept-is}
use Rattle.packbits.proofs.Putting.{plain-keeps, plain-bytes}

-- an input that begins with a packet: what its first byte says, and what it fills the row with
pub record Packs (bytes rest row : List ℕ) (n : ℕ) : Type 0 where
  pub filled : fills (get_or (bytes ++ rest) 0 0) ≡ n
  pub taken : takes (get_or (bytes ++ rest) 0 0) ≡ length bytes
  pub inside : n ≤ length row
  pub some : 0 < n
  pub content : packet_bytes (record { input = bytes ++ rest; left = length row }) ≡ take n row

-- a packet that is written as it was planned
literal_packs : (row rest : List ℕ) (n : ℕ) → 1 ≤ n → n ≤ 128 → n ≤ length row → Packs ((n - 1) ∷ take n row) rest row n
unfolding packet_bytes
literal_packs row rest n some few inside =
    let kind = copies (n - 1) (omega arith) in
    let long = length-take-le n row inside in
    let back : n - 1 + 1 ≡ n = omega arith in
    record {
      filled = kind.fills_so ∙ back;
      taken = kind.takes_so ∙ omega (arith, long);
      inside = inside;
      some = omega arith;
      content = rw (lt-ltb (n - 1) 128 (omega arith), kind.fills_so, back) (take_at (take n row) rest n long);
    }

repeat_packs : (row rest : List ℕ) (n : ℕ) → 2 ≤ n → n ≤ 128 → n ≤ length row → ((k : ℕ) → k < n → get_or row k 0 ≡ get_or row 0 0) → Packs ((257 - n) ∷ get_or row 0 0 ∷ []) rest row n
unfolding packet_bytes
repeat_packs row rest n some few inside alike =
    let kind = repeats (257 - n) (omega arith) in
    let back : 257 - (257 - n) ≡ n = omega arith in
    record {
      filled = kind.fills_so ∙ back;
      taken = kind.takes_so;
      inside = inside;
      some = omega arith;
      content = rw (le-ltb (257 - n) 128 (omega arith), kind.fills_so, back) (table_same n _ _ (λ k h. sym (alike k h)) ∙ own_front n row inside);
    }

packs : (row rest : List ℕ) (p : Planned) → Kept row p → Packs (packet_of row p) rest row p.bytes
unfolding packet_of
packs row rest p fit = by (eqb p.kind 0) refl
  where
    by : (b : Bool) → eqb p.kind 0 ≡ b → Packs (pick b ((p.bytes - 1) ∷ take p.bytes row) ((257 - p.bytes) ∷ get_or row 0 0 ∷ [])) rest row p.bytes
    by true e = literal_packs row rest p.bytes fit.some fit.few fit.inside
    by false e =
        let rule = (fit.repeats (eqb-false p.kind 0 e)).1 in
        repeat_packs row rest p.bytes rule.0 fit.few fit.inside (λ k h. eqb-true (get_or row k 0) (get_or row 0 0) (every_one p.bytes _ rule.1 k h))

-- an input that reads as a row
pub record ReadsAs (input row : List ℕ) (n : ℕ) : Type 0 where
  pub sound : Sound (row_faults input (length row))
  pub fills-row : row_bytes input (length row) ≡ row
  pub takes_all : used input (length row) ≡ n

reads_on : (bytes rest row : List ℕ) (n m : ℕ) → Packs bytes rest row n → ReadsAs rest (drop n row) m → ReadsAs (bytes ++ rest) row (length bytes + m)
reads_on bytes rest row n m is on =
    let p : Packet = record { input = bytes ++ rest; left = length row } in
    let q : Packet = record { input = rest; left = length (drop n row) } in
    let long = length-append bytes rest in
    let there : 0 < length (bytes ++ rest) = rw long (omega (arith, takes-some (header p), is.taken)) in
    let past : drop (takes (header p)) (bytes ++ rest) ≡ rest = drop_at bytes rest (takes (header p)) (sym is.taken) in
    let after : behind p ≡ q = ap (λ (l : List ℕ). record { input = l; left = length row - fills (header p) }) past ∙ ap (λ (k : ℕ). record { input = rest; left = k }) (ap (λ (k : ℕ). length row - k) is.filled ∙ sym (length-drop n row)) in
    let in_order : packets p ≡ p ∷ packets q = goes_on p (omega (arith, is.some, is.inside)) there ∙ ap (λ (k : Packet). p ∷ packets k) after in
    record {
      sound = rw in_order (sound_more (sound_packet p there (rw is.filled is.inside) (rw (is.taken, long) (omega arith))) on.sound);
      fills-row = ap bytes_of in_order ∙ ap (λ (l : List ℕ). l ++ row_bytes rest (length (drop n row))) is.content ∙ ap (λ (l : List ℕ). take n row ++ l) on.fills-row ∙ take-append-drop n row;
      takes_all = ap taken_by in_order ∙ ap (λ (k : ℕ). k + used rest (length (drop n row))) is.taken ∙ ap (λ (k : ℕ). length bytes + k) on.takes_all;
    }

-- a plan's bytes, whatever stands behind them
empty : (row : List ℕ) → length row ≡ 0 → row ≡ []
empty [] e = refl
empty (b ∷ row) e = absurd (omega arith)

plan_reads : (row : List ℕ) (plan : List Planned) (more : List ℕ) → keeps row plan ≡ true → ReadsAs (plan_bytes row plan ++ more) row (length (plan_bytes row plan))
plan_reads row [] more e = rw (empty row (eqb-true (length row) 0 e)) (record { sound = none; fills-row = refl; takes_all = refl })
plan_reads row (p ∷ plan) more e =
    let rest = drop p.bytes row in
    let bytes = packet_of row p in
    let fit = kept-is row p (and_left (kept row p) (keeps rest plan) e) in
    let on = plan_reads rest plan more (and_right (kept row p) (keeps rest plan) e) in
    rw (append_assoc bytes (plan_bytes rest plan) more, length-append bytes (plan_bytes rest plan)) (reads_on bytes (plan_bytes rest plan ++ more) row p.bytes (length (plan_bytes rest plan)) (packs row (plan_bytes rest plan ++ more) p fit) on)

-- what a call that reads such an input answers and leaves
unpacked : (input row : List ℕ) (n : ℕ) → ReadsAs input row n → (old : List ℕ) → length old ≡ length row → (answer : Answer ℕ) (new : List ℕ) → RowUnpacked input old answer new → (answer ≡ Ok n) × (new ≡ row)
unpacked input row n is old long answer new p =
    let same : Sound (row_faults input (length old)) = rw long is.sound in
    let all : row_bytes input (length old) ≡ row = ap (row_bytes input) long ∙ is.fills-row in
    let finished = sound-done (used input (length old)) same in
    (answer_once answer (Ok n) (p.answers ∙ finished ∙ ap done (ap (used input) long ∙ is.takes_all)), p.leaves ∙ ap (λ (o : Outcome ℕ). after o (row_bytes input (length old)) old) finished ∙ ap (λ (l : List ℕ). l ++ drop (length l) old) all ∙ ap (λ (l : List ℕ). row ++ l) (drop_of_length-le old {i = length row} (omega arith)) ∙ append-nil row)

-- an accepted plan's bytes unpack to the row, all of them used, whatever stands behind them
pub plan_reads_back : (row kinds lengths old : List ℕ) (n : ℕ) (new : List ℕ) → PlanWritten row kinds lengths old (Ok n) new → (more row₀ : List ℕ) → length row₀ ≡ length row → (answer : Answer ℕ) (read : List ℕ) → RowUnpacked (take n new ++ more) row₀ answer read → (answer ≡ Ok n) × (read ≡ row)
plan_reads_back row kinds lengths old n new w more row₀ long answer read p =
    let plan = plan_of kinds lengths in
    let faults = plan_faults row kinds lengths old in
    let sound = done-sound faults (length (plan_bytes row plan)) n (sym w.answers) in
    let is : length (plan_bytes row plan) ≡ n = done-value faults (length (plan_bytes row plan)) n (sym w.answers) in
    let keep : keeps row plan ≡ true = not-false (keeps row plan) (sound-here (sound_rest sound)) in
    let wrote : take n new ≡ plan_bytes row plan = ap (λ (k : ℕ). take k new) (sym is) ∙ writes n new w in
    unpacked (take n new ++ more) row n (rw (wrote, ← is) (plan_reads row plan more keep)) row₀ long answer read p

-- without a plan a row takes as many bytes more as it has parts of 128, the last perhaps shorter, and reads back
pub packed-length : (row old : List ℕ) (n : ℕ) (new : List ℕ) → RowPacked row old (Ok n) new → (n ≡ length row + literals_of (length row)) × ((more row₀ : List ℕ) → length row₀ ≡ length row → (answer : Answer ℕ) (read : List ℕ) → RowUnpacked (take n new ++ more) row₀ answer read → (answer ≡ Ok n) × (read ≡ row))
packed-length row old n new w =
    let plan = plain_plan row in
    let is : length (plan_bytes row plan) ≡ n = done-value (pack_faults row old) (length (plan_bytes row plan)) n (sym w.answers) in
    let wrote : take n new ≡ plan_bytes row plan = ap (λ (k : ℕ). take k new) (sym is) ∙ writes n new w in
    (sym is ∙ plain-bytes row, λ more row₀ long answer read p. unpacked (take n new ++ more) row n (rw (wrote, ← is) (plan_reads row plan more (plain-keeps (literals_of (length row)) row (length row) refl refl))) row₀ long answer read p)
