-- A PackBits row that is read: its packets, what is wrong with each, and what they fill (rules 17.1 to 17.6). Assumes nothing.
use Rattle.std.specs.Prelude.{ℕ, zero, suc, ◌+◌, ◌-◌, ◌≡◌, not, List, [], ◌∷◌, ◌++◌, length, get_or, take, drop, eqb, ltb}
use Rattle.answer.specs.Outcome.{Fault, unless, invalid, truncated, pick, Step, Promise, outcome, Answer, Done}
use Rattle.answer.specs.Table.{table}

-- how many bytes of the row a packet fills, and how many of the input it takes, itself among them, by its first byte
unfoldable pub fills : ℕ → ℕ
fills h = pick (ltb h 128) (h + 1) (pick (eqb h 128) 0 (257 - h))

unfoldable pub takes : ℕ → ℕ
takes h = pick (ltb h 128) (h + 2) (pick (eqb h 128) 1 2)

-- where a packet begins: what is left of the input, and how much of the row
pub record Packet : Type 0 where
  pub input : List ℕ
  pub left : ℕ

abbrev pub header : Packet → ℕ
header p = get_or p.input 0 0

-- the packet behind it
abbrev pub behind : Packet → Packet
behind p = record { input = drop (takes (header p)) p.input; left = p.left - fills (header p) }

-- the packets until the row is full or the input ends, up to a number of them; each takes a byte or more, so that one more than the input has bytes are all
abbrev pub packets_upto : ℕ → Packet → List Packet
packets_upto zero p = []
packets_upto (suc n) p = pick (eqb p.left 0) [] (p ∷ pick (eqb (length p.input) 0) [] (packets_upto n (behind p)))

abbrev pub packets : Packet → List Packet
packets p = packets_upto (suc (length p.input)) p

-- a packet's faults: it is not there; it passes the row's end; its bytes are not all there
unfoldable pub packet_faults : Packet → List Fault
packet_faults p =
    truncated (eqb (length p.input) 0)
    ∷ invalid (ltb p.left (fills (header p)))
    ∷ truncated (ltb (length p.input) (takes (header p)))
    ∷ []

-- what it fills the row with: the bytes behind its first, or the one behind it, repeated
unfoldable pub packet_bytes : Packet → List ℕ
packet_bytes p =
    pick (ltb (header p) 128) (take (fills (header p)) (drop 1 p.input)) (table (fills (header p)) (λ k. get_or p.input 1 0))

-- all packets' faults and bytes, end to end, and what they take together
abbrev pub faults_of : List Packet → List Fault
faults_of [] = []
faults_of (p ∷ ps) = packet_faults p ++ faults_of ps

abbrev pub bytes_of : List Packet → List ℕ
bytes_of [] = []
bytes_of (p ∷ ps) = packet_bytes p ++ bytes_of ps

abbrev pub taken_by : List Packet → ℕ
taken_by [] = 0
taken_by (p ∷ ps) = takes (header p) + taken_by ps

-- a row of n bytes that begins an input
abbrev pub row_of : List ℕ → ℕ → List Packet
row_of packed n = packets (record { input = packed; left = n })

abbrev pub row_faults : List ℕ → ℕ → List Fault
row_faults packed n = faults_of (row_of packed n)

abbrev pub row_bytes : List ℕ → ℕ → List ℕ
row_bytes packed n = bytes_of (row_of packed n)

abbrev pub used : List ℕ → ℕ → ℕ
used packed n = taken_by (row_of packed n)

-- rows of n bytes, each on its own; bytes left over are a fault
abbrev pub rows_faults : List ℕ → ℕ → ℕ → List Fault
rows_faults packed zero n = invalid (not (eqb (length packed) 0)) ∷ []
rows_faults packed (suc rows) n = row_faults packed n ++ rows_faults (drop (used packed n) packed) rows n

-- what they hold, unpacked one after another
abbrev pub rows_bytes : List ℕ → ℕ → ℕ → List ℕ
rows_bytes packed zero n = []
rows_bytes packed (suc rows) n = row_bytes packed n ++ rows_bytes (drop (used packed n) packed) rows n

abbrev pub RowMeasured : List ℕ → ℕ → Answer ℕ → Type 0
RowMeasured packed n answer = outcome answer ≡ unless (row_faults packed n) (used packed n)

abbrev pub RowUnpacked : List ℕ → List ℕ → Answer ℕ → List ℕ → Type 0
RowUnpacked packed old answer new =
    Promise (unless (row_faults packed (length old)) (used packed (length old))) (row_bytes packed (length old)) old (outcome answer) new

abbrev pub RowsChecked : List ℕ → ℕ → ℕ → Done → Type 0
RowsChecked packed rows n answer = Step (rows_faults packed rows n) answer
