-- Upstream's definitions of native_samples.rs, and `value` of native_rgba.rs, to be held beside the source. `word16` and `word32`, which it only
-- calls, are TIFF 6.0's words; `digit` is rule 2.2's. Differences are of natural numbers (`back_fits` and on, of Same). Assumes nothing.
use Rattle.std.specs.Prelude.{ℕ, zero, suc, ◌+◌, ◌-◌, ◌*◌, ◌/◌, ◌%◌, ◌^◌, ◌≤◌, ◌<◌, ◌≡◌, Bool, true, false, not, ◌||◌, List, length, get_or, eqb, ltb}
use Rattle.answer.specs.Outcome.{pick}

-- TIFF 6.0: the first byte is the least significant when `le`, the most significant otherwise
abbrev pub word16 : List ℕ → ℕ → Bool → ℕ
word16 s at le = pick le (get_or s at 0 + 256 * get_or s (at + 1) 0) (256 * get_or s at 0 + get_or s (at + 1) 0)

abbrev pub word32 : List ℕ → ℕ → Bool → ℕ
word32 s at le =
    pick le (get_or s at 0 + 256 * get_or s (at + 1) 0 + 65536 * get_or s (at + 2) 0 + 16777216 * get_or s (at + 3) 0)
    (16777216 * get_or s at 0 + 65536 * get_or s (at + 1) 0 + 256 * get_or s (at + 2) 0 + get_or s (at + 3) 0)

-- rule 2.2: digit p of v is v / 256^p mod 256
abbrev pub scale : ℕ → ℕ
scale p = 256 ^ p

abbrev pub digit : ℕ → ℕ → ℕ
digit v p = v / scale p % 256

-- read as: n bytes at a place are within the length
abbrev pub RangeOk : ℕ → ℕ → ℕ → Type 0
RangeOk length at n = at + n ≤ length

abbrev pub width_ok : ℕ → Bool
width_ok bytes = eqb bytes 1 || eqb bytes 2 || eqb bytes 4 || eqb bytes 8

unfoldable pub modulus : ℕ → ℕ
modulus bytes = pick (eqb bytes 1) 256 (pick (eqb bytes 2) 65536 (pick (eqb bytes 4) 4294967296 18446744073709551616))

unfoldable pub word : List ℕ → ℕ → ℕ → Bool → ℕ
word s at bytes le =
    pick (eqb bytes 1) (get_or s at 0)
    (pick (eqb bytes 2) (word16 s at le)
    (pick (eqb bytes 4) (word32 s at le)
    (pick le (word32 s at true + 4294967296 * word32 s (at + 4) true) (4294967296 * word32 s at false + word32 s (at + 4) false))))

abbrev pub first : ℕ → ℕ → Bool → ℕ → Bool
first row ch predict n = not predict || eqb row 0 || eqb ch 0 || ltb n ch || ltb (n % row) ch

-- the source's recursion, with a bound on how often it goes back; n times are always enough, so that `sample` meets the source's equation
-- (`sample_equation` of proofs/Same.antt)
abbrev pub sample_within : List ℕ → ℕ → ℕ → ℕ → Bool → Bool → ℕ → ℕ → ℕ
sample_within s row ch bytes le predict zero n = word s (n * bytes) bytes le % modulus bytes
sample_within s row ch bytes le predict (suc more) n =
    (word s (n * bytes) bytes le + pick (first row ch predict n) 0 (sample_within s row ch bytes le predict more (n - ch))) % modulus bytes

unfoldable pub sample : List ℕ → ℕ → ℕ → ℕ → Bool → Bool → ℕ → ℕ
sample s row ch bytes le predict n = sample_within s row ch bytes le predict n n

abbrev pub converted : List ℕ → ℕ → ℕ → ℕ → Bool → Bool → Bool → ℕ → ℕ
converted s row ch bytes le predict out_le k = digit (sample s row ch bytes le predict (k / bytes)) (pick out_le (k % bytes) (bytes - 1 - k % bytes))

pub record Valid (s : List ℕ) (row_bytes ch bytes : ℕ) : Type 0 where
  pub width : width_ok bytes ≡ true
  pub channels : (0 < ch) × (ch ≤ 64)
  pub row : 0 < row_bytes
  pub groups : row_bytes % (ch * bytes) ≡ 0
  pub rows : length s % row_bytes ≡ 0

unfoldable pub reversed : ℕ → ℕ
reversed v =
    v / 128 % 2 + 2 * (v / 64 % 2) + 4 * (v / 32 % 2) + 8 * (v / 16 % 2) + 16 * (v / 8 % 2) + 32 * (v / 4 % 2) + 64 * (v / 2 % 2) + 128 * (v % 2)

-- native_rgba.rs
abbrev pub value : List ℕ → ℕ → Bool → Bool → ℕ
value s i wide le = pick wide (word16 s (2 * i) le) (get_or s i 0)
