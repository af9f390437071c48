-- Two strips that lead to one state have one future: what comes is converted alike. So a piece does what it would after any strip that leads
-- to the state. Assumes nothing.
use mathlib.Core.Path.{◌≡◌, sym, ap, ◌∙◌}
use mathlib.Core.List.{List, ◌++◌}
use Prim.Native.Nat.{ℕ, zero, suc, ◌+◌, ◌-◌, ◌*◌, ◌/◌, ◌%◌, ◌≤◌, ◌<◌}
use native.Mathlib.Nat.{add-zero, mod-lt, div-add-mod', mul-le-mul_right, suc-mul, le-div_iff_mul-le, div-lt_iff_lt-mul, mul_comm, mul-sub}
use native.Mathlib.Decide.{dec_lt}
use native.Mathlib.Omega.{arith}
use lib.ListN.{length, get_or, get_or-append}
use lib.Seq.{get_or-append-add}
use Rattle.laws.proofs.Groups.{group_of, item_of}
use Rattle.words.specs.Digits.{digit}
use Rattle.words.specs.Word.{ordered}
use Rattle.samples.specs.Sample.{stored_at}
use Rattle.packets.specs.declared.Packets.{Packets}
use Rattle.packets.specs.declared.Plan.{Plan}
use Rattle.packets.specs.State.{sample_of, tail_of, sums_of, state_at, behind}
use Rattle.packets.specs.Promises.{completes, continued_at, continued}
use Rattle.packets.proofs.Bytewise.{Run, run_at}
use Rattle.laws.proofs.Groups.{more_groups}
use Rattle.packets.proofs.Bytewise.{Sane, still, ready, went}
use Rattle.packets.proofs.Agree.{run_agrees}
use Rattle.packets.proofs.Behind.{Passed, Shaped, sane, behind-length, behind_leads}

-- the loop's positions follow from the state, and the state from them
pub run-state : (p : Plan) (s t : List ℕ) (k : ℕ) → state_at p s k ≡ state_at p t k → run_at p s k ≡ run_at p t k
unfolding run_at state_at
run-state p s t k e =
    let tail : tail_of p s k ≡ tail_of p t k = ap (λ (x : Packets). x.tail) e in
    let sums : sums_of p s k ≡ sums_of p t k = ap (λ (x : Packets). x.sums) e in
    rw (tail, sums)

pub state-run : (p : Plan) (s t : List ℕ) (k : ℕ) → run_at p s k ≡ run_at p t k → state_at p s k ≡ state_at p t k
unfolding run_at state_at
state-run p s t k e =
    let tail : tail_of p s k ≡ tail_of p t k = ap (λ (x : Run). x.tail) e in
    let sums : sums_of p s k ≡ sums_of p t k = ap (λ (x : Run). x.sums) e in
    rw (tail, sums)

module _ (p : Plan) (is : Sane p) (s t : List ℕ) where
  abbrev W : ℕ
  W = p.width

  -- one byte more
  one-sample : (k : ℕ) → run_at p s k ≡ run_at p t k → get_or s k 0 ≡ get_or t k 0 → k % W + 1 ≡ W → sample_of p s (k / W) ≡ sample_of p t (k / W)
  one-sample k e b last = sym (ready p is s k last) ∙ rw (e, b) (ready p is t k last)

  one-run : (k : ℕ) → run_at p s k ≡ run_at p t k → get_or s k 0 ≡ get_or t k 0 → run_at p s (k + 1) ≡ run_at p t (k + 1)
  one-run k e b = by (dec_lt (k % W + 1) W)
    where
      by : Dec (k % W + 1 < W) → run_at p s (k + 1) ≡ run_at p t (k + 1)
      by (yes l) = still p is s k l ∙ rw (e, b) (sym (still p is t k l))
      by (no m) =
          let last : k % W + 1 ≡ W = omega (arith, mod-lt k is.good.wide) in
          sym (went p is s k last) ∙ rw (e, one-sample k e b last) (went p is t k last)

  module _ (k : ℕ) (e : run_at p s k ≡ run_at p t k) where
    pub same_runs : (d : ℕ) → ((i : ℕ) → i < d → get_or s (k + i) 0 ≡ get_or t (k + i) 0) → run_at p s (k + d) ≡ run_at p t (k + d)
    same_runs zero b = rw (add-zero k) e
    same_runs (suc d) b =
        let up : k + suc d ≡ k + d + 1 = omega arith in
        rw up (one-run (k + d) (same_runs d (λ i h. b i (omega arith))) (b d (omega arith)))

    -- every sample that is finished from there on
    pub same_samples : (d : ℕ) → ((i : ℕ) → i < d → get_or s (k + i) 0 ≡ get_or t (k + i) 0) → (n : ℕ) → k / W ≤ n → n < (k + d) / W → sample_of p s n ≡ sample_of p t n
    same_samples d b n from to =
        -- its last byte is byte number i from k on
        let last = n * W + (W - 1) in
        let wide : 0 < W = is.good.wide in
        let i = last - k in
        let inside : suc n * W ≤ (k + d) / W * W = mul-le-mul_right W to in
        let after : k / W * W ≤ n * W = mul-le-mul_right W from in
        let here : k + i ≡ last = omega (arith, div-add-mod' k W, mod-lt k wide) in
        let less : i < d = omega (arith, inside, suc-mul n W, div-add-mod' (k + d) W) in
        let word : last / W ≡ n = group_of n W (omega arith) in
        let rest : last % W + 1 ≡ W = omega (arith, item_of n W {b = W - 1} (omega arith)) in
        let runs : run_at p s last ≡ run_at p t last = rw here at (same_runs i (λ j h. b j (omega arith))) in
        let bytes : get_or s last 0 ≡ get_or t last 0 = rw here at (b i less) in
        rw word at (one-sample last runs bytes rest)

-- any strip s of a state's plan that leads to the state stands for the one behind it
module _ (st : Packets) (ok : Passed st) (shaped : Shaped st) (s : List ℕ) (leads : state_at st.plan s st.received ≡ st) (long : length s ≡ st.received) (piece : List ℕ) where
  abbrev k : ℕ
  k = st.received

  abbrev B : ℕ
  B = st.plan.width

  abbrev p : Plan
  p = st.plan

  same : Sane p
  same = sane st ok shaped

  front : (l : List ℕ) → length l ≡ k → (i : ℕ) → i < k → get_or (l ++ piece) i 0 ≡ get_or l i 0
  front l e i h = get_or-append l piece 0 i (rw e h)

  back : (l : List ℕ) → length l ≡ k → (i : ℕ) → get_or (l ++ piece) (k + i) 0 ≡ get_or piece i 0
  back l e i = rw (← e) (get_or-append-add l piece i 0)

  start_runs : run_at p (behind st ++ piece) k ≡ run_at p (s ++ piece) k
  start_runs =
      run_agrees p same (behind st ++ piece) (behind st) k (front (behind st) (behind-length st ok shaped))
      ∙ run-state p (behind st) s k (behind_leads st ok shaped ∙ sym leads)
      ∙ sym (run_agrees p same (s ++ piece) s k (front s long))

  bytes : (i : ℕ) → i < length piece → get_or (behind st ++ piece) (k + i) 0 ≡ get_or (s ++ piece) (k + i) 0
  bytes i h = back (behind st) (behind-length st ok shaped) i ∙ sym (back s long i)

  -- the state after the piece is where the strip and the piece lead
  pub continued_any : continued st piece ≡ state_at p (s ++ piece) (k + length piece)
  continued_any = state-run p (behind st ++ piece) (s ++ piece) (k + length piece) (same_runs p same (behind st ++ piece) (s ++ piece) k start_runs (length piece) bytes)

  -- and what is written are their samples from the first that was not finished
  pub continued_at_any : (i : ℕ) → i < completes st (length piece) → continued_at st piece i ≡ stored_at B st.plan.out_le (sample_of p (s ++ piece)) (k / B * B + i)
  continued_at_any i h =
      let n = (k / B * B + i) / B in
      let wide : 0 < B = same.good.wide in
      let a = k / B in
      let b = (k + length piece) / B in
      let more : a ≤ b = more_groups k (k + length piece) B wide (omega arith) in
      let from : a ≤ n = (le-div_iff_mul-le {k = B} {x = a} {y = k / B * B + i} wide).1 (omega arith) in
      let to : n < b = (div-lt_iff_lt-mul {k = B} {x = k / B * B + i} {y = b} wide).1 (omega (arith, mul_comm (b - a) B, mul-sub B b a, mul_comm B b, mul_comm B a, mul-le-mul_right B more)) in
      ap (digit 256 (ordered st.plan.out_le B ((k / B * B + i) % B))) (same_samples p same (behind st ++ piece) (s ++ piece) k start_runs (length piece) bytes n from to)
