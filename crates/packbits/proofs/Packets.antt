-- A row's packets one by one: the next, its faults and its bytes, and what a look at the headers and a filled row have behind them. Assumes nothing.
use Rattle.std.specs.Prelude.{Err}
use Prim.Native.Nat.{ℕ, zero, suc, ◌+◌, ◌-◌, ◌*◌, ◌≤◌, ◌<◌}
use mathlib.Core.Path.{◌≡◌, refl, sym, ap, ◌∙◌}
use mathlib.Core.Bool.{Bool, true, false, not, ◌&&◌}
use mathlib.Core.List.{List, [], ◌∷◌, ◌++◌}
use native.Mathlib.Omega.{arith}
use native.Mathlib.Nat.{suc-mul, zero-mul, add_comm, sub-zero, add-zero, zero-add, add_assoc}
use borrow.Author.Tests.{ltb-true, ltb-false, leb-true, eqb-true, eqb-false, eq-eqb, ne_eqb, lt-ltb, le-ltb}
use lib.ListN.{length, get_or, take, drop, length-drop, length-append}
use lib.Seq.{get_or-drop, drop-drop, length-take-le, take_all}
use lib.Dec.{eqb, ltb, leb}
use Rattle.answer.specs.declared.Refusal.TheVariants.{Invalid, Truncated}
use Rattle.answer.specs.Outcome.{Sound, none, next, First, here, pick, fault_of, Step, Done}
use Rattle.answer.proofs.Promised.{refusing, first_more, sound-front, sound_back, sound-here, sound_rest}
use Rattle.answer.specs.Table.{table}
use Rattle.answer.proofs.Filling.{length-table}
use Rattle.laws.proofs.Faults.{Past, past_none, past_more, past_step}
use Rattle.laws.proofs.Says.{and_left, and_right}
use Rattle.packbits.specs.Rows.{fills, takes, Packet, header, behind, packets_upto, packets, packet_faults, packet_bytes, faults_of, bytes_of, taken_by, row_faults, row_bytes, used, rows_faults, rows_bytes}
use Rattle.packbits.specs.declared.reading.Header.{Header}
use Rattle.packbits.specs.declared.reading.Header.TheVariants.{Copies, Rests, Repeats}
use Rattle.packbits.specs.Parts.{begun, header_of, header_fills, header_takes, whole_literal, does_nothing, bytes_at, Placed}
use Rattle.packbits.proofs.Onward.{first-at, used_up, Upto, upto_none, upto_on, upto_end}

-- a packet takes a byte or more
pub takes-some : (h : ℕ) → 0 < takes h
unfolding takes
takes-some h = by (ltb h 128) (eqb h 128)
  where
    by : (a b : Bool) → 0 < pick a (h + 2) (pick b 1 2)
    by true b = omega arith
    by false true = omega arith
    by false false = omega arith

-- what a first byte says, once it is known which kind it is of
pub record Kind (h filled taken : ℕ) : Type 0 where
  pub fills_so : fills h ≡ filled
  pub takes_so : takes h ≡ taken

pub copies : (h : ℕ) → h < 128 → Kind h (h + 1) (h + 2)
unfolding fills takes
copies h l = let t = lt-ltb h 128 l in record { fills_so = rw t; takes_so = rw t }

pub rests : (h : ℕ) → h ≡ 128 → Kind h 0 1
unfolding fills takes
rests h e = rw e (record { fills_so = refl; takes_so = refl })

pub repeats : (h : ℕ) → 128 < h → Kind h (257 - h) 2
unfolding fills takes
repeats h l =
    let t = le-ltb h 128 (omega arith) in
    let u = ne_eqb h 128 (λ e. omega arith) in record { fills_so = rw (t, u); takes_so = rw (t, u) }

-- which `Header::from` tells
pub said : (byte : ℕ) → Kind byte (header_fills (header_of byte)) (header_takes (header_of byte))
unfolding fills takes
said byte =
    record { fills_so = filled (ltb byte 128) (eqb byte 128); takes_so = taken (ltb byte 128) (eqb byte 128) }
  where
    filled : (a b : Bool) → pick a (byte + 1) (pick b 0 (257 - byte)) ≡ header_fills (pick a (Copies (byte + 1)) (pick b Rests (Repeats (257 - byte))))
    filled true b = refl
    filled false true = refl
    filled false false = refl

    taken : (a b : Bool) → pick a (byte + 2) (pick b 1 2) ≡ header_takes (pick a (Copies (byte + 1)) (pick b Rests (Repeats (257 - byte))))
    taken true b = omega arith
    taken false true = refl
    taken false false = refl

-- what a packet without a fault is
pub record Fits (p : Packet) : Type 0 where
  pub there : 0 < length p.input
  pub passes : fills (header p) ≤ p.left
  pub whole : takes (header p) ≤ length p.input

some : (n : ℕ) → eqb n 0 ≡ false → 0 < n
some zero e = absurd (eqb-false 0 0 e refl)
some (suc n) e = omega arith

pub fits : (p : Packet) → Sound (packet_faults p) → Fits p
unfolding packet_faults
fits p s =
    record {
      there = some (length p.input) (sound-here s);
      passes = ltb-false p.left (fills (header p)) (sound-here (sound_rest s));
      whole = ltb-false (length p.input) (takes (header p)) (sound-here (sound_rest (sound_rest s)));
    }

-- packets up to any number that is enough are all
enough : (n m : ℕ) (p : Packet) → length p.input < n → length p.input < m → packets_upto n p ≡ packets_upto m p
enough zero m p h k = absurd (omega arith)
enough (suc n) zero p h k = absurd (omega arith)
enough (suc n) (suc m) p h k = ap (λ (l : List Packet). pick (eqb p.left 0) [] (p ∷ l)) (by (eqb (length p.input) 0) refl (enough n m (behind p)))
  where
    by : (b : Bool) → eqb (length p.input) 0 ≡ b → (length (behind p).input < n → length (behind p).input < m → packets_upto n (behind p) ≡ packets_upto m (behind p)) → pick b [] (packets_upto n (behind p)) ≡ pick b [] (packets_upto m (behind p))
    by true e on = refl
    by false e on =
        let shorter : length (behind p).input < length p.input = rw (length-drop (takes (header p)) p.input) (omega (arith, takes-some (header p), some (length p.input) e)) in
        on (omega arith) (omega arith)

-- the packets of a row that is not full: one, and those behind it
abbrev later_of : ℕ → Packet → List Packet
later_of n p = pick (eqb (length p.input) 0) [] (packets_upto n (behind p))

begins : (p : Packet) → 0 < p.left → packets p ≡ p ∷ later_of (length p.input) p
begins p more = rw (ne_eqb p.left 0 (λ e. omega arith))

pub goes_on : (p : Packet) → 0 < p.left → 0 < length p.input → packets p ≡ p ∷ packets (behind p)
goes_on p more there =
    begins p more
    ∙ ap (λ (l : List Packet). p ∷ l) (rw (ne_eqb (length p.input) 0 (λ e. omega arith)) (enough (length p.input) (suc (length (behind p).input)) (behind p) (rw (length-drop (takes (header p)) p.input) (omega (arith, takes-some (header p)))) (omega arith)))

-- the packet behind the one at a place
pub header_at : (packed : List ℕ) (at left : ℕ) → header (begun packed at left) ≡ get_or packed at 0
header_at packed at left = first-at packed at

behind-at : (packed : List ℕ) (at left : ℕ) → let h = get_or packed at 0 in behind (begun packed at left) ≡ begun packed (at + takes h) (left - fills h)
behind-at packed at left =
    ap (λ (h : ℕ). record { input = drop (takes h) (drop at packed); left = left - fills h }) (header_at packed at left)
    ∙ ap (λ (l : List ℕ). record { input = l; left = left - fills (get_or packed at 0) }) (drop-drop (takes (get_or packed at 0)) at packed)

-- the packet at a place, if it has no fault
pub record FitsAt (packed : List ℕ) (at left : ℕ) : Type 0 where
  pub inside : at < length packed
  pub some : 0 < takes (get_or packed at 0)
  pub passes : fills (get_or packed at 0) ≤ left
  pub whole : at + takes (get_or packed at 0) ≤ length packed

pub fits-at : (packed : List ℕ) (at left : ℕ) → Sound (packet_faults (begun packed at left)) → FitsAt packed at left
fits-at packed at left s =
    let fit = fits (begun packed at left) s in
    let same = header_at packed at left in
    let there : 0 < length packed - at = rw (length-drop at packed) at fit.there in
    let whole : takes (get_or packed at 0) ≤ length packed - at = rw (same, length-drop at packed) at fit.whole in
    record { inside = omega arith; some = takes-some (get_or packed at 0); passes = rw same at fit.passes; whole = omega arith }

-- what `check_packet` finds: the packet is not there, or the two other faults in their order
pub missing : (packed : List ℕ) (at left : ℕ) → length packed ≤ at → Step (packet_faults (begun packed at left)) (Err Truncated)
unfolding packet_faults
missing packed at left h =
    record { passed = refusing (packet_faults (begun packed at left)) tt (here (eq-eqb (length (drop at packed)) 0 (length-drop at packed ∙ omega arith))) }

pub there : (packed : List ℕ) (at left : ℕ) {header : Header} {f t : ℕ} {r : Done} → at < length packed → header ≡ header_of (get_or packed at 0) → f ≡ header_fills header → t ≡ header_takes header → Step (fault_of (ltb left f) Invalid ∷ fault_of (ltb (length packed - at) t) Truncated ∷ []) r → Step (packet_faults (begun packed at left)) r
unfolding packet_faults
there packed at left {header} {f} {t} {r} h is fill take-is s =
    let read : Kind (get_or packed at 0) f t = rw (fill, take-is, is) (said (get_or packed at 0)) in
    rw (length-drop at packed, ne_eqb (length packed - at) 0 (λ e. omega arith), header_at packed at left, read.fills_so, read.takes_so) (record { passed = s.passed })

-- the packets from one without a fault on
pub next-at : (packed : List ℕ) (at left : ℕ) → 0 < left → Sound (packet_faults (begun packed at left)) → let h = get_or packed at 0 in packets (begun packed at left) ≡ begun packed at left ∷ packets (begun packed (at + takes h) (left - fills h))
next-at packed at left more s =
    let p = begun packed at left in
    goes_on p more (fits p s).there ∙ ap (λ (q : Packet). p ∷ packets q) (behind-at packed at left)

-- a look at the packets up to a place
pub record Looked (packed : List ℕ) (n at left : ℕ) : Type 0 where
  pub inside : at ≤ length packed
  pub past : Past (row_faults packed n) (faults_of (packets (begun packed at left)))
  pub taken : used packed n ≡ at + taken_by (packets (begun packed at left))

pub looked_none : (packed : List ℕ) (n : ℕ) → Looked packed n 0 n
looked_none packed n = record { inside = omega arith; past = past_none _; taken = sym (zero-add _) }

module _ {packed : List ℕ} {n at left : ℕ} (l : Looked packed n at left) where
  pub looked_first : {r : ℕ} → 0 < left → First (packet_faults (begun packed at left)) r → First (row_faults packed n) r
  looked_first more f = l.past.first (rw (begins (begun packed at left) more) (first_more _ f))

  pub looked_on : 0 < left → Sound (packet_faults (begun packed at left)) → let h = get_or packed at 0 in Looked packed n (at + takes h) (left - fills h)
  looked_on more s =
      let p = begun packed at left in
      let h = get_or packed at 0 in
      let next = next-at packed at left more s in
      record {
        inside = (fits-at packed at left s).whole;
        past = past_more (packet_faults p) (rw next at l.past) s;
        taken = l.taken ∙ ap (λ (ps : List Packet). at + taken_by ps) next ∙ ap (λ (k : ℕ). at + (takes k + taken_by (packets (begun packed (at + takes h) (left - fills h))))) (header_at packed at left) ∙ sym (add_assoc at (takes h) _);
      }

-- the same of what its first byte says
module _ (packed : List ℕ) (at left : ℕ) {header : Header} (is : header ≡ header_of (get_or packed at 0)) (s : Sound (packet_faults (begun packed at left))) where
  read : Kind (get_or packed at 0) (header_fills header) (header_takes header)
  read = rw is (said (get_or packed at 0))

  pub fits_said : (at < length packed) × (0 < header_takes header) × (header_fills header ≤ left) × (at + header_takes header ≤ length packed)
  fits_said =
      let fit = fits-at packed at left s in
      (fit.inside, rw read.takes_so at fit.some, rw read.fills_so at fit.passes, rw read.takes_so at fit.whole)

  pub looked_said : {n : ℕ} → Looked packed n at left → 0 < left → Looked packed n (at + header_takes header) (left - header_fills header)
  looked_said l more = rw (read.takes_so, read.fills_so) at (looked_on l more s)

pub looked_end : {packed : List ℕ} {n at left : ℕ} → Looked packed n at left → left ≡ 0 → Sound (row_faults packed n) × (used packed n ≡ at)
looked_end {packed} {n} {at} {left} l e =
    let full : packets (begun packed at left) ≡ [] = rw e refl in
    (l.past.sound (rw full none), l.taken ∙ ap (λ (ps : List Packet). at + taken_by ps) full ∙ add-zero at)

-- packets without a fault: what they take is there, and what they fill is the row
copied_length : (h : ℕ) (input : List ℕ) (b : Bool) → ltb h 128 ≡ b → takes h ≤ length input → length (pick b (take (fills h) (drop 1 input)) (table (fills h) (λ k. get_or input 1 0))) ≡ fills h
copied_length h input true e room =
    let kind = copies h (ltb-true h 128 e) in
    length-take-le (fills h) (drop 1 input) (rw (length-drop 1 input) (omega (arith, room, kind.fills_so, kind.takes_so)))
copied_length h input false e room = length-table (fills h) _

pub length_packet : (p : Packet) → Fits p → length (packet_bytes p) ≡ fills (header p)
unfolding packet_bytes
length_packet p fit = copied_length (header p) p.input (ltb (header p) 128) refl fit.whole

pub record Sized (n : ℕ) (p : Packet) (ps : List Packet) : Type 0 where
  pub taken : taken_by ps ≤ length p.input
  pub filled : length p.input < n → length (bytes_of ps) ≡ p.left

sized : (n : ℕ) (p : Packet) → Sound (faults_of (packets_upto n p)) → Sized n p (packets_upto n p)
sized zero p s = record { taken = omega arith; filled = λ h. absurd (omega arith) }
sized (suc n) p s = by (eqb p.left 0) refl s (sized n (behind p))
  where
    by : (b : Bool) → eqb p.left 0 ≡ b → Sound (faults_of (pick b [] (p ∷ later_of n p))) → (Sound (faults_of (packets_upto n (behind p))) → Sized n (behind p) (packets_upto n (behind p))) → Sized (suc n) p (pick b [] (p ∷ later_of n p))
    by true e s on = record { taken = omega arith; filled = λ h. sym (eqb-true p.left 0 e) }
    by false e s on =
        let fit = fits p (sound-front (packet_faults p) _ s) in
        let there = ne_eqb (length p.input) 0 (λ e. omega (arith, fit.there)) in
        let next = on (rw there at (sound_back (packet_faults p) _ s)) in
        let less = length-drop (takes (header p)) p.input in
        rw there
        (record {
          taken = omega (arith, next.taken, less, fit.whole);
          filled = λ h. length-append (packet_bytes p) _ ∙ omega (arith, length_packet p fit, next.filled (omega (arith, less, fit.there, takes-some (header p))), fit.passes);
        })

-- a row without a fault: the bytes that it takes are there, and it is filled
pub used-within : (packed : List ℕ) (n : ℕ) → Sound (row_faults packed n) → used packed n ≤ length packed
used-within packed n s = (sized (suc (length packed)) (record { input = packed; left = n }) s).taken

pub row-filled : (packed : List ℕ) (n : ℕ) → Sound (row_faults packed n) → length (row_bytes packed n) ≡ n
row-filled packed n s = (sized (suc (length packed)) (record { input = packed; left = n }) s).filled (omega arith)

-- rows without a fault hold as many bytes as they have together
pub rows-filled : (packed : List ℕ) (rows n : ℕ) → Sound (rows_faults packed rows n) → length (rows_bytes packed rows n) ≡ rows * n
rows-filled packed zero n s = sym (zero-mul n)
rows-filled packed (suc rows) n s =
    let rest = drop (used packed n) packed in
    let on = rows-filled rest rows n (sound_back (row_faults packed n) _ s) in
    length-append (row_bytes packed n) (rows_bytes rest rows n) ∙ ap (λ (k : ℕ). k + length (rows_bytes rest rows n)) (row-filled packed n (sound-front (row_faults packed n) _ s)) ∙ ap (λ (k : ℕ). n + k) on ∙ sym (suc-mul rows n ∙ add_comm (rows * n) n)

-- rows up to one of them
pub record RowsLooked (packed : List ℕ) (rows n at k : ℕ) : Type 0 where
  pub inside : at ≤ length packed
  pub within : k ≤ rows
  pub past : Past (rows_faults packed rows n) (rows_faults (drop at packed) (rows - k) n)

pub rows_none : (packed : List ℕ) (rows n : ℕ) → RowsLooked packed rows n 0 0
rows_none packed rows n = record { inside = omega arith; within = omega arith; past = rw (sub-zero rows) (past_none (rows_faults packed rows n)) }

module _ {packed : List ℕ} {rows n at k : ℕ} (l : RowsLooked packed rows n at k) (more : k < rows) where
  one_more : rows - k ≡ suc (rows - (k + 1))
  one_more = omega arith

  pub rows-first : {r : ℕ} → First (row_faults (drop at packed) n) r → First (rows_faults packed rows n) r
  rows-first f = l.past.first (rw one_more (first_more _ f))

  pub rows_on : Sound (row_faults (drop at packed) n) → RowsLooked packed rows n (at + used (drop at packed) n) (k + 1)
  rows_on s =
      record {
        inside = omega (arith, used-within (drop at packed) n s, length-drop at packed, l.inside);
        within = omega arith;
        past = rw (← drop-drop (used (drop at packed) n) at packed) (past_more (row_faults (drop at packed) n) (rw one_more at l.past) s);
      }

-- after the last row, what is left over
pub rows_end : {packed : List ℕ} {rows n at k : ℕ} {a : Done} → RowsLooked packed rows n at k → rows ≤ k → Step (fault_of (not (eqb at (length packed))) Invalid ∷ []) a → Step (rows_faults packed rows n) a
rows_end {packed} {rows} {n} {at} {k} {a} l end s =
    let none_left : rows - k ≡ 0 = omega arith in past_step a l.past (rw (none_left, used_up packed at l.inside) s)

-- rows of no bytes take nothing
rows_empty : (packed : List ℕ) (rows : ℕ) → rows_faults packed 0 0 ≡ rows_faults packed rows 0
rows_empty packed zero = refl
rows_empty packed (suc rows) = rows_empty packed rows

pub rows_turned : (packed : List ℕ) (rows n : ℕ) {all : ℕ} → all ≡ pick (eqb n 0) 0 rows → rows_faults packed all n ≡ rows_faults packed rows n
rows_turned packed rows n e = ap (λ (k : ℕ). rows_faults packed k n) e ∙ by (eqb n 0) refl
  where
    by : (b : Bool) → eqb n 0 ≡ b → rows_faults packed (pick b 0 rows) n ≡ rows_faults packed rows n
    by true z = rw (eqb-true n 0 z) (rows_empty packed rows)
    by false z = refl

-- the rest of a list as a part of it
pub rest_of : (l : List ℕ) (at : ℕ) → take (length l - at) (drop at l) ≡ drop at l
rest_of l at = take_all (length l - at) (drop at l) (rw (length-drop at l) (omega arith))

-- a packet without a fault, from what was seen of it
pub sound_packet : (p : Packet) → 0 < length p.input → fills (header p) ≤ p.left → takes (header p) ≤ length p.input → Sound (packet_faults p)
unfolding packet_faults
sound_packet p there passes whole =
    next (ne_eqb (length p.input) 0 (λ e. omega arith)) (next (le-ltb p.left (fills (header p)) passes) (next (le-ltb (length p.input) (takes (header p)) whole) none))

sound-at : (packed : List ℕ) (at left : ℕ) → at < length packed → fills (get_or packed at 0) ≤ left → at + takes (get_or packed at 0) ≤ length packed → Sound (packet_faults (begun packed at left))
sound-at packed at left inside passes whole =
    let same = header_at packed at left in
    sound_packet (begun packed at left) (rw (length-drop at packed) (omega arith)) (rw same passes) (rw (same, length-drop at packed) (omega arith))

-- a look past a packet of which the first byte was seen
pub looked_past : {packed : List ℕ} {n at left f t : ℕ} → Looked packed n at left → 0 < left → Kind (get_or packed at 0) f t → at < length packed → f ≤ left → at + t ≤ length packed → Looked packed n (at + t) (left - f)
looked_past {packed} {n} {at} {left} l more kind inside passes whole =
    rw (kind.fills_so, kind.takes_so) at (looked_on l more (sound-at packed at left inside (rw kind.fills_so passes) (rw kind.takes_so whole)))

pub record WholeLiteral (packed : List ℕ) (at left : ℕ) : Type 0 where
  pub there : at + 129 ≤ length packed
  pub fits : 128 ≤ left
  pub kind : Kind (get_or packed at 0) 128 129

pub whole_literal-is : (packed : List ℕ) (at left : ℕ) → whole_literal packed at left ≡ true → WholeLiteral packed at left
whole_literal-is packed at left e =
    let room = leb 129 (length packed - at) in
    let some = leb 128 left in
    let first = and_left (room && some) (eqb (get_or packed at 0) 127) e in
    let there = leb-true 129 (length packed - at) (and_left room some first) in
    let h = eqb-true (get_or packed at 0) 127 (and_right (room && some) (eqb (get_or packed at 0) 127) e) in
    let kind = copies 127 (omega arith) in
    record { there = omega arith; fits = leb-true 128 left (and_right room some first); kind = rw h kind }

pub record Nothing (packed : List ℕ) (at : ℕ) : Type 0 where
  pub inside : at < length packed
  pub kind : Kind (get_or packed at 0) 0 1

pub nothing_is : (packed : List ℕ) (at : ℕ) → does_nothing packed at ≡ true → Nothing packed at
nothing_is packed at e =
    let inside = ltb at (length packed) in
    let none = eqb (get_or packed at 0) 128 in
    record { inside = ltb-true at (length packed) (and_left inside none e); kind = rests _ (eqb-true (get_or packed at 0) 128 (and_right inside none e)) }

-- what a packet at a place fills the row with, by what its first byte says
module _ (packed : List ℕ) (at left : ℕ) where
  abbrev h : ℕ
  h = get_or packed at 0

  abbrev pub header_bytes : Header → List ℕ
  header_bytes (Copies n) = bytes_at packed (at + 1) n
  header_bytes Rests = []
  header_bytes (Repeats n) = table n (λ k. get_or packed (at + 1) 0)

  bytes_said : packet_bytes (begun packed at left) ≡ header_bytes (header_of h)
  unfolding packet_bytes fills
  bytes_said = rw (header_at packed at left) (by (ltb h 128) (eqb h 128))
    where
      by : (a b : Bool) → let n = pick a (h + 1) (pick b 0 (257 - h)) in pick a (take n (drop 1 (drop at packed))) (table n (λ k. get_or (drop at packed) 1 0)) ≡ header_bytes (pick a (Copies (h + 1)) (pick b Rests (Repeats (257 - h))))
      by true b = ap (take (h + 1)) (drop-drop 1 at packed)
      by false true = refl
      by false false = ap (λ (v : ℕ). table (257 - h) (λ k. v)) (get_or-drop at packed 1 0)

-- and no packet fills more than 128 bytes
pub header_few : (byte : ℕ) → header_fills (header_of byte) ≤ 128
header_few byte = by (ltb byte 128) refl (eqb byte 128) refl
  where
    by : (a : Bool) → ltb byte 128 ≡ a → (b : Bool) → eqb byte 128 ≡ b → header_fills (pick a (Copies (byte + 1)) (pick b Rests (Repeats (257 - byte)))) ≤ 128
    by true e b f = omega (arith, ltb-true byte 128 e)
    by false e true f = omega arith
    by false e false f = omega (arith, ltb-false byte 128 e, eqb-false byte 128 f)

-- a row that packets have filled up to a place
pub record Filling (packed row₀ : List ℕ) (at from : ℕ) (row : List ℕ) : Type 0 where
  pub inside : at ≤ length packed
  pub sound : Sound (faults_of (packets (begun packed at (length row₀ - from))))
  pub upto : Upto (row_bytes packed (length row₀)) (bytes_of (packets (begun packed at (length row₀ - from)))) row₀ from row

pub filling_none : (packed row : List ℕ) → Sound (row_faults packed (length row)) → Filling packed row 0 0 row
filling_none packed row s =
    record { inside = omega arith; sound = rw (sub-zero (length row)) s; upto = rw (sub-zero (length row)) (upto_none (row_bytes packed (length row)) row) }

module _ {packed row₀ row : List ℕ} {at from : ℕ} (fill : Filling packed row₀ at from row) where
  module _ (more : from < length row) where
    abbrev left : ℕ
    left = length row₀ - from

    some_left : 0 < left
    some_left = omega (arith, fill.upto.same)

    packet_sound : Sound (packet_faults (begun packed at left))
    packet_sound = sound-front _ _ (rw (begins (begun packed at left) some_left) at fill.sound)

    pub packet_fits : FitsAt packed at left
    packet_fits = fits-at packed at left packet_sound

    -- where the packet ends, once its first byte was read
    module _ {header : Header} (is : header ≡ header_of (get_or packed at 0)) where
      read-now : Kind (get_or packed at 0) (header_fills header) (header_takes header)
      read-now = rw is (said (get_or packed at 0))

      pub ends : (at + header_takes header ≤ length packed) × (from + header_fills header ≤ length row)
      ends =
          let fit = packet_fits in
          (rw (← read-now.takes_so) fit.whole, omega (arith, fit.passes, read-now.fills_so, fill.upto.same))

      pub takes_more : 0 < header_takes header
      takes_more = rw read-now.takes_so at (takes-some (get_or packed at 0))

      pub few : header_fills header ≤ 128
      few = rw is (header_few (get_or packed at 0))

      pub filling_on : {new : List ℕ} → Placed from (header_bytes packed at left header) row new → Filling packed row₀ (at + header_takes header) (from + header_fills header) new
      filling_on {new} put =
          let p = begun packed at left in
          let f = header_fills header in
          let t = header_takes header in
          let bytes = header_bytes packed at left header in
          let holds : packet_bytes p ≡ bytes = rw is (bytes_said packed at left) in
          let next : packets p ≡ p ∷ packets (begun packed (at + t) (left - f)) = rw (read-now.fills_so, read-now.takes_so) at (next-at packed at left some_left packet_sound) in
          let rest : left - f ≡ length row₀ - (from + f) = omega arith in
          let long : length bytes ≡ f = ap length (sym holds) ∙ length_packet p (fits p packet_sound) ∙ ap fills (header_at packed at left) ∙ read-now.fills_so in
          let on : bytes_of (packets p) ≡ bytes ++ bytes_of (packets (begun packed (at + t) (left - f))) = ap bytes_of next ∙ ap (λ (l : List ℕ). l ++ bytes_of (packets (begun packed (at + t) (left - f)))) holds in
          record {
            inside = ends.0;
            sound = rw (← rest) (sound_back (packet_faults p) _ (rw next at fill.sound));
            upto = rw (← rest) (upto_on bytes (rw on at fill.upto) long (omega (arith, ends.1, fill.upto.same)) put);
          }

  pub filling_end : length row ≤ from → row ≡ row_bytes packed (length row₀)
  filling_end end =
      let none_left : length row₀ - from ≡ 0 = omega (arith, fill.upto.same) in
      upto_end (rw none_left at fill.upto) (omega (arith, fill.upto.same))
