-- A row that is cut between two words, past its first pixel, and taken up there has the samples of the whole row. Assumes nothing.
use Rattle.std.proofs.Common.{◌≡◌, ℕ, zero, suc, ◌+◌, ◌-◌, ◌*◌, ◌/◌, ◌<◌, ◌≤◌, Bool, true, List, length, get_or, drop, sym, ap, ◌∙◌, add-mul, arith, get_or-drop}
use native.Mathlib.Decide.{dec_lt}
use Rattle.answer.specs.Table.{table}
use Rattle.answer.proofs.Filling.{table_at}
use Rattle.words.specs.Word.{plus}
use Rattle.words.proofs.Words.{word_same}
use Rattle.samples.specs.Sample.{word_of, sample}
use Rattle.samples.proofs.Sums.{sample-later}
use Rattle.rows.specs.Row.{one_row, resumed}
use Rattle.rows.proofs.Loops.{later, carried, carried_first, carried_later, carried_on}

module _ (raw : List ℕ) (channels width : ℕ) (le : Bool) (some : 0 < channels) (k : ℕ) (deep : channels ≤ k) where
  -- the sums so far: the last sample of each channel before the cut
  abbrev pub sums_at : List ℕ
  sums_at = table channels (λ j. sample (one_row raw channels width) true le raw (k - channels + j))

  abbrev pub rest : List ℕ
  rest = drop (k * width) raw

  same_word : (n : ℕ) → word_of width le raw (k + n) ≡ word_of width le rest n
  same_word n = word_same raw rest ((k + n) * width) (n * width) width le (λ p h. sym (get_or-drop (k * width) raw (n * width + p) 0 ∙ ap (λ (q : ℕ). get_or raw q 0) (omega (arith, add-mul k n width))))

  module _ (n : ℕ) (inside : k + n < length raw / width) (within : n < length rest / width) where
    whole : sample (one_row raw channels width) true le raw (k + n) ≡ plus width (word_of width le rest n) (sample (one_row raw channels width) true le raw (k + n - channels))
    whole = sample-later (one_row raw channels width) true le raw (k + n) some (later raw channels width (k + n) inside (omega arith)) ∙ rw (same_word n)

    step : sample (one_row raw channels width) true le raw (k + n - channels) ≡ carried rest channels width le sums_at n → sample (one_row raw channels width) true le raw (k + n) ≡ resumed rest channels width le sums_at n
    step e = whole ∙ rw e (sym (carried_on rest channels width le sums_at n some within))

    first : n < channels → sample (one_row raw channels width) true le raw (k + n) ≡ resumed rest channels width le sums_at n
    first l =
        let back : k + n - channels ≡ k - channels + n = omega arith in
        step (rw back (sym (carried_first rest channels width le sums_at n l ∙ table_at channels (λ j. sample (one_row raw channels width) true le raw (k - channels + j)) n l)))

    again : channels ≤ n → sample (one_row raw channels width) true le raw (k + (n - channels)) ≡ resumed rest channels width le sums_at (n - channels) → sample (one_row raw channels width) true le raw (k + n) ≡ resumed rest channels width le sums_at n
    again d e =
        let back : k + n - channels ≡ k + (n - channels) = omega arith in
        let on : n - channels + channels ≡ n = omega arith in
        step (rw back (e ∙ sym (rw on at (carried_later rest channels width le sums_at (n - channels)))))

  pub taken_up : (more n : ℕ) → n ≤ more → k + n < length raw / width → n < length rest / width → sample (one_row raw channels width) true le raw (k + n) ≡ resumed rest channels width le sums_at n
  taken_up zero n enough inside within = first n inside within (omega arith)
  taken_up (suc m) n enough inside within = by (dec_lt n channels) (λ d. taken_up m (n - channels) (omega arith) (omega arith) (omega arith))
    where
      by : Dec (n < channels) → (channels ≤ n → sample (one_row raw channels width) true le raw (k + (n - channels)) ≡ resumed rest channels width le sums_at (n - channels)) → sample (one_row raw channels width) true le raw (k + n) ≡ resumed rest channels width le sums_at n
      by (yes l) e = first n inside within l
      by (no m) e = let d : channels ≤ n = omega arith in again n inside within d (e d)
