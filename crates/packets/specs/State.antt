-- What a state is: all that the bytes received so far leave to be known. Assumes nothing.
use Rattle.std.specs.Prelude.{ℕ, zero, suc, ◌+◌, ◌*◌, ◌/◌, ◌%◌, Bool, true, not, ◌&&◌, ◌||◌, List, [], ◌∷◌, get_or, eqb, ltb}
use Rattle.answer.specs.Outcome.{Fault, pick}
use Rattle.answer.specs.Table.{table}
use Rattle.words.specs.Word.{modulus}
use Rattle.samples.specs.Sample.{strip, sample, stored_at}
use Rattle.samples.specs.declared.Strip.{Strip}
use Rattle.samples.specs.Promises.{strip_faults}
use Rattle.laws.specs.Turns.{every}
use Rattle.packets.specs.declared.Plan.{Plan}
use Rattle.packets.specs.declared.Packets.{Packets}

abbrev pub geometry : Plan → Strip
geometry p = strip p.row_bytes p.channels p.width

-- the samples of a strip, and how many a row has
abbrev pub sample_of : Plan → List ℕ → ℕ → ℕ
sample_of p s = sample (geometry p) p.predict p.le s

abbrev pub per_row : Plan → ℕ
per_row p = p.row_bytes / p.width

-- the last of v 0, v 1, .. v (m - 1) that is of channel j; 0 if none is
abbrev pub latest : ℕ → (ℕ → ℕ) → ℕ → ℕ → ℕ
latest channels v zero j = 0
latest channels v (suc m) j = pick (eqb (m % channels) j) (v m) (latest channels v m j)

-- after the first k bytes of s: the bytes of the unfinished word, 0 past them
unfoldable pub tail_at : Plan → List ℕ → ℕ → ℕ → ℕ
tail_at p s k j = pick (ltb j (k % p.width)) (get_or s (k / p.width * p.width + j) 0) 0

-- the last sample of channel j that is finished in the unfinished row; 0 if there is none, and without prediction
unfoldable pub sum_at : Plan → List ℕ → ℕ → ℕ → ℕ
sum_at p s k j =
    let n = k / p.width in
    pick p.predict (latest p.channels (λ i. sample_of p s (n / per_row p * per_row p + i)) (n % per_row p) j) 0

unfoldable pub tail_of : Plan → List ℕ → ℕ → List ℕ
tail_of p s k = table 8 (tail_at p s k)

unfoldable pub sums_of : Plan → List ℕ → ℕ → List ℕ
sums_of p s k = table 64 (sum_at p s k)

-- so a state is this, and nothing else of the bytes is kept
unfoldable pub state_at : Plan → List ℕ → ℕ → Packets
state_at p s k = record { plan = p; received = k; tail = tail_of p s k; sums = sums_of p s k }

-- the most bytes that a strip may have
abbrev pub most : ℕ
most = 1073741824

-- no fault of a list is found
abbrev pub clear : List Fault → Bool
clear [] = true
clear (f ∷ fs) = not f.found && clear fs

-- how many channels have a sample in the unfinished row, if it matters
abbrev pub live : Packets → ℕ
live st =
    let begun = st.received / st.plan.width % (st.plan.row_bytes / st.plan.width) in
    pick st.plan.predict (pick (ltb begun st.plan.channels) begun st.plan.channels) 0

-- number j of the tail, and of the sums, is one that bytes can leave there
abbrev pub tail_right : List ℕ → ℕ → ℕ → Bool
tail_right tail begun j = ltb j begun || eqb (get_or tail j 0) 0

abbrev pub sum_right : List ℕ → ℕ → ℕ → ℕ → Bool
sum_right sums width begun j = pick (ltb j begun) (ltb (get_or sums j 0) (modulus width)) (eqb (get_or sums j 0) 0)

unfoldable pub tails_right : List ℕ → ℕ → Bool
tails_right tail begun = every 8 (tail_right tail begun)

unfoldable pub sums_right : List ℕ → ℕ → ℕ → Bool
sums_right sums width begun = every 64 (sum_right sums width begun)

-- the check: a geometry that a start takes, no more bytes than a strip may have, and no number where there is none
unfoldable pub consistent : Packets → Bool
consistent st =
    clear (strip_faults 0 (geometry st.plan))
    && (not (ltb most st.received)
    && (tails_right st.tail (st.received % st.plan.width)
    && sums_right st.sums st.plan.width (live st)))

-- a strip that leads to a state that passes the check: every row begins with the sums and goes on with zeros, and the tail stands at the end.
-- (`behind_leads` says so; proofs/Future.antt that it does not matter which such strip is taken.)
unfoldable pub behind : Packets → List ℕ
behind st =
    table st.received (λ k.
    pick (ltb k (st.received / st.plan.width * st.plan.width))
    (stored_at st.plan.width st.plan.le (λ n. get_or st.sums (n % (st.plan.row_bytes / st.plan.width)) 0) k)
    (get_or st.tail (k % st.plan.width) 0))
