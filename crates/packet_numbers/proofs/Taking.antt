-- How the promise of a piece on numbers is met, by what the piece on the lent parts of their state answers. Assumes nothing.
use Rattle.std.specs.Prelude.{Ok, Err}
use mathlib.Core.Path.{◌≡◌, refl, sym, ap, ◌∙◌}
use mathlib.Core.Bool.{false}
use mathlib.Core.List.{List}
use Prim.Native.Nat.{ℕ, ◌+◌, ◌≤◌}
use native.Mathlib.Omega.{arith}
use lib.ListN.{length, get_or, set}
use Rattle.answer.specs.declared.Refusal.{Refusal}
use Rattle.answer.proofs.Filling.{part, length-table}
use Rattle.answer.specs.Outcome.{outcome, Answer}
use Rattle.words.specs.Digits.{digit, value}
use Rattle.words.specs.Word.{Bytes}
use Rattle.packets.specs.declared.Plan.{Plan}
use Rattle.packets.specs.State.{most}
use Rattle.packets.specs.Promises.{state, TookLent}
use Rattle.packets.proofs.Answers.{piece_refused, piece_fits, piece_lengths, piece_done}
use Rattle.packet_numbers.specs.Numbers.{tail_of, sums_in, plan_in, state_of, strays, PieceTaken}
use Rattle.packet_numbers.proofs.Splices.{spliced, length_spliced, spliced_same}
use Rattle.packet_numbers.proofs.Standing.{kept-long, sums_part, moved_stands}

refused-done : {kind : Refusal} {n : ℕ} → Err kind ≡ Ok n → ⊥
refused-done e = by (ap tells e)
  where
    tells : Answer ℕ → ℕ
    tells (Ok n) = 0
    tells (Err k) = 1

    by : ◌≡◌ {A = ℕ} 1 0 → ⊥
    by z = omega arith

module _ (s : List ℕ) (kept : strays s ≡ false) {plan : Plan} {tail piece old : List ℕ} (plan-is : plan ≡ plan_in s) (tail_is : tail ≡ tail_of (get_or s 7 0)) {answer : Answer ℕ} {tail' sums' new : List ℕ} (is : TookLent (state plan (get_or s 6 0) tail (part 8 72 s)) piece old answer tail' sums' new) where
  took : TookLent (state_of s) piece old answer tail' sums' new
  took = rw (plan-is, tail_is, sums_part s (kept-long s kept)) at is

  tails : length (tail_of (get_or s 7 0)) ≡ 8
  tails = length-table 8 (λ j. digit 256 j (get_or s 7 0))

  sums : length (sums_in s) ≡ 64
  unfolding sums_in
  sums = length-table 64 (λ j. get_or s (8 + j) 0)

  pub numbers-refused : (kind : Refusal) → answer ≡ Err kind → PieceTaken s piece old (Err kind) (spliced 8 72 s sums') new
  numbers-refused kind e =
      let same : sums' ≡ part 8 72 s = (rw (sym took.writes.answers ∙ ap outcome e) at took.sums_are) ∙ sym (sums_part s (kept-long s kept)) in
      record {
        stepped = record { state = state_of s; answer = Err kind };
        allowed = piece_refused (state_of s) piece old tails sums took kind e;
        answers = refl;
        goes_on = λ n other. absurd (refused-done other);
        stays = λ k other. ap (spliced 8 72 s) same ∙ spliced_same 8 72 s;
      }

  module _ {n : ℕ} (e : answer ≡ Ok n) where
    pub numbers_fit : get_or s 6 0 + length piece ≤ most
    numbers_fit = piece_fits (state_of s) piece old tails sums took e

    numbers-long : length sums' ≡ 64
    numbers-long = (piece_lengths (state_of s) piece old tails sums took e).1

    pub numbers_spread : length (spliced 8 72 s sums') ≡ 80
    numbers_spread = length_spliced 8 72 s sums' (omega arith) (omega (arith, kept-long s kept)) numbers-long ∙ kept-long s kept

    pub numbers-done : {v : ℕ} → v ≡ value 256 8 (λ p. get_or tail' p 0) → Bytes tail' → PieceTaken s piece old (Ok n) (set (set (spliced 8 72 s sums') 6 (get_or s 6 0 + length piece)) 7 v) new
    numbers-done {v} joined bytes = record {
      stepped = record { state = state (plan_in s) (get_or s 6 0 + length piece) tail' sums'; answer = Ok n };
      allowed = piece_done (state_of s) piece old tails sums took e;
      answers = refl;
      goes_on = λ m same. moved_stands s kept sums' tail' (get_or s 6 0 + length piece) v numbers-long (piece_lengths (state_of s) piece old tails sums took e).0 bytes joined;
      stays = λ k other. absurd (refused-done (sym other));
    }
