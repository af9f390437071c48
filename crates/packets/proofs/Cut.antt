-- A piece is its first part and then its second: the state, what is written, and how two loops make one. Assumes nothing.
use mathlib.Core.Path.{◌≡◌, refl, sym, ap, ◌∙◌}
use mathlib.Core.Bool.{true}
use mathlib.Core.List.{List, [], ◌++◌, append_assoc, append-nil}
use Prim.Native.Nat.{ℕ, ◌+◌, ◌-◌, ◌*◌, ◌/◌, ◌%◌, ◌≤◌, ◌<◌}
use native.Mathlib.Nat.{div-add-mod', add-mul-div_right, add-mul, add_assoc, mul_comm, mul-sub, mul-le-mul_right, div-lt_iff_lt-mul}
use native.Mathlib.Omega.{arith}
use lib.Seq.{drop_at, drop-drop, take_all}
use lib.ListN.{length, take, drop, length-append, length-drop, drop_of_length-le, get_or-append}
use Rattle.answer.specs.Table.{table, filled}
use Rattle.answer.proofs.Filling.{table_join, length-table, filled-take}
use Rattle.words.specs.Digits.{digit}
use Rattle.words.specs.Word.{ordered}
use Rattle.packets.specs.declared.Packets.{Packets}
use Rattle.packets.specs.declared.Plan.{Plan}
use Rattle.packets.specs.State.{state_at, consistent, behind, most}
use Rattle.packets.specs.Promises.{completes, continued_at, continued}
use Rattle.laws.proofs.Groups.{more_groups}
use Rattle.packets.proofs.Bytewise.{Sane}
use Rattle.packets.proofs.Agree.{sample_agrees}
use Rattle.packets.proofs.Behind.{Passed, passed, Shaped, sane_sound, behind-length}
use Rattle.packets.proofs.Future.{continued_any, continued_at_any}
use Rattle.packets.proofs.Reaches.{state-passes, shaped_at}

-- where what n bytes more complete ends
pub completes_end : (st : Packets) → 0 < st.plan.width → (n : ℕ) → st.received / st.plan.width * st.plan.width + completes st n ≡ (st.received + n) / st.plan.width * st.plan.width
completes_end st wide n =
    let W = st.plan.width in
    let a = st.received / W in
    let b = (st.received + n) / W in
    let more : a ≤ b = more_groups st.received (st.received + n) W wide (omega arith) in
    omega (arith, mul_comm (b - a) W, mul-sub W b a, mul_comm W b, mul_comm W a, mul-le-mul_right W more)

-- and, counted from the unfinished word on, how many they are
pub completes-is : (st : Packets) → 0 < st.plan.width → (n : ℕ) {fill past : ℕ} → fill ≡ st.received % st.plan.width → past ≡ (fill + n) % st.plan.width → fill + n - past ≡ completes st n
completes-is st wide n {fill} {past} f e =
    let W = st.plan.width in
    let k = st.received in
    let all : k + n ≡ fill + n + k / W * W = omega (arith, f, div-add-mod' k W) in
    let words : (k + n) / W ≡ (fill + n) / W + k / W = ap (λ (x : ℕ). x / W) all ∙ add-mul-div_right (fill + n) (k / W) wide in
    omega (arith, completes_end st wide n, ap (λ (x : ℕ). x * W) words, add-mul ((fill + n) / W) (k / W) W, div-add-mod' (fill + n) W, e)

module _ (st : Packets) (ok : Passed st) (shaped : Shaped st) (a b : List ℕ) (fits : st.received + length a ≤ most) where
  abbrev p : Plan
  p = st.plan

  abbrev W : ℕ
  W = st.plan.width

  abbrev k : ℕ
  k = st.received

  abbrev s : List ℕ
  s = behind st ++ a

  is : Sane p
  is = sane_sound p ok.sound

  long : length s ≡ k + length a
  long = length-append (behind st) a ∙ ap (λ (n : ℕ). n + length a) (behind-length st ok shaped)

  pub cut-passes : consistent (continued st a) ≡ true
  cut-passes = state-passes p ok.sound s (k + length a) fits

  pub cut_shaped : Shaped (continued st a)
  cut_shaped = shaped_at p s (k + length a)

  pub cut-state : continued (continued st a) b ≡ continued st (a ++ b)
  unfolding state_at
  cut-state =
      continued_any (continued st a) (passed _ cut-passes) cut_shaped s refl long b
      ∙ rw (append_assoc (behind st) a b, length-append a b, add_assoc k (length a) (length b))

  pub cut-front : (i : ℕ) → i < completes st (length a) → continued_at st a i ≡ continued_at st (a ++ b) i
  cut-front i h =
      let n = (k / W * W + i) / W in
      let inside : n < (k + length a) / W = (div-lt_iff_lt-mul {k = W} {x = k / W * W + i} {y = (k + length a) / W} is.good.wide).1 (omega (arith, completes_end st is.good.wide (length a))) in
      ap (digit 256 (ordered st.plan.out_le W ((k / W * W + i) % W)))
      (sym (rw (append_assoc (behind st) a b) at (sample_agrees p is (s ++ b) s (k + length a) (λ j l. get_or-append s b 0 j (rw long l)) n inside)))

  pub cut-back : (i : ℕ) → i < completes (continued st a) (length b) → continued_at (continued st a) b i ≡ continued_at st (a ++ b) (completes st (length a) + i)
  unfolding state_at
  cut-back i h =
      let there : (k + length a) / W * W + i ≡ k / W * W + (completes st (length a) + i) = omega (arith, completes_end st is.good.wide (length a)) in
      continued_at_any (continued st a) (passed _ cut-passes) cut_shaped s refl long b i h
      ∙ rw (append_assoc (behind st) a b, there)

  pub cut-long : completes st (length a) + completes (continued st a) (length b) ≡ completes st (length (a ++ b))
  unfolding state_at
  cut-long =
      let end : (k + length a + length b) / W ≡ (k + length (a ++ b)) / W = rw (length-append a b, add_assoc k (length a) (length b)) in
      omega (arith, completes_end st is.good.wide (length a), completes_end (continued st a) is.good.wide (length b), completes_end st is.good.wide (length (a ++ b)), ap (λ (n : ℕ). n * W) end)

-- a buffer of which the rest from h on was filled on
pub rest_filled : (f : ℕ → ℕ) (h m l : ℕ) (old out new : List ℕ) → length old ≤ l → h ≤ l → out ≡ filled h f old → new ≡ filled m (λ i. f (h + i)) (take (l - h) (drop h out)) → take h out ++ (new ++ drop (l - h) (drop h out)) ≡ filled (h + m) f old
rest_filled f h m l old out new full room e is =
    let past : drop h out ≡ drop h old = ap (drop h) e ∙ drop_at (table h f) (drop h old) h (length-table h f) in
    let short : length (drop h old) ≤ l - h = omega (arith, length-drop h old) in
    let none : drop (l - h) (drop h out) ≡ [] = ap (drop (l - h)) past ∙ drop_of_length-le (drop h old) short in
    let all : take (l - h) (drop h out) ≡ drop h old = ap (take (l - h)) past ∙ take_all (l - h) (drop h old) short in
    let front : take h out ≡ table h f = ap (take h) e ∙ filled-take h f old in
    let rest : new ≡ table m (λ i. f (h + i)) ++ drop (h + m) old =
    is ∙ ap (filled m (λ i. f (h + i))) all ∙ ap (λ (x : List ℕ). table m (λ i. f (h + i)) ++ x) (drop-drop m h old) in
    rw (front, none, append-nil new, rest)
    (sym (append_assoc (table h f) (table m (λ i. f (h + i))) (drop (h + m) old)) ∙ ap (λ (x : List ℕ). x ++ drop (h + m) old) (table_join h m f))
