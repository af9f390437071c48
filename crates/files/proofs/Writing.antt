-- A plan's numbers, and numbers written one after another: a list of them, and a front's parts. Assumes nothing.
use Prim.Native.Nat.{ℕ, ◌+◌, ◌*◌, ◌≤◌, ◌<◌}
use mathlib.Core.Path.{◌≡◌, refl, sym, ap, ◌∙◌}
use mathlib.Core.Bool.{true}
use mathlib.Core.List.{List, ◌++◌}
use native.Mathlib.Nat.{mul-add, mul-one}
use native.Mathlib.Omega.{arith}
use lib.ListN.{length, get_or, length-append}
use Rattle.answer.specs.Table.{stores}
use Rattle.answer.proofs.Filling.{table_at, length-stores, stores-on}
use Rattle.words.specs.Digits.{digit}
use Rattle.words.specs.Word.{Put}
use Rattle.layout.specs.declared.Fields.{Fields}
use Rattle.layout.specs.Layout.{scratch_length}
use Rattle.files.specs.declared.plan.Plan.{Plan}
use Rattle.files.specs.File.{stored, row_bytes, strips, outside, entry_count, bits_place, offsets_place, counts_place, resolutions_place, planes_place, file_length, entry_of, front}
use Rattle.files.specs.Parts.{Fit, plan_of, Planned, Wrote, EntryPut}
use Rattle.files.proofs.Holding.{Holds, holds_at, holds_first, holds_second, holds_in, length-stored, wrote_on, wrote_part, wrote-number}
use Rattle.files.proofs.Places.{holds_entry}
use Rattle.files.proofs.Sizes.{entries-few, front_small}

-- the numbers of a plan: what each is, and how they stand to each other
pub record Laid (f : Fields) (p : Plan) : Type 0 where
  pub rows : p.rows ≡ f.h
  pub row : p.row ≡ row_bytes f
  pub strips_said : p.strips ≡ strips f p.each
  pub entries : p.entries ≡ entry_count f
  pub bits_outside : p.bits_outside ≡ outside 2 f.ch
  pub strips-outside : p.strips_outside ≡ outside 4 (strips f p.each)
  pub bits : p.bits ≡ bits_place f
  pub offsets : p.offsets ≡ offsets_place f
  pub counts : p.counts ≡ counts_place f p.each
  pub resolutions : p.resolutions ≡ resolutions_place f p.each
  pub planes : p.planes ≡ planes_place f p.each
  pub few : (14 ≤ p.entries) × (p.entries ≤ 15)
  pub bits_at : p.bits ≡ 14 + 12 * p.entries
  pub offsets_at : p.offsets ≡ p.bits + 2 * p.bits_outside
  pub counts_at : p.counts ≡ p.offsets + 4 * p.strips_outside
  pub resolutions_at : p.resolutions ≡ p.counts + 4 * p.strips_outside
  pub planes_at_lem : p.planes ≡ p.resolutions + 16
  pub length_at : p.length ≡ p.planes + scratch_length f
  pub small : p.planes ≤ 1000000

pub laid_by : {f : Fields} {p : Plan} → Fit f p.each → p ≡ plan_of f p.each → Laid f p
unfolding plan_of bits_place offsets_place counts_place resolutions_place planes_place file_length
laid_by {f} {p} fit is =
    let part : (g : Plan → ℕ) → g p ≡ g (plan_of f p.each) = λ g. ap g is in
    let said : p.planes ≡ planes_place f p.each = part (λ q. q.planes) in
    let entries : p.entries ≡ entry_count f = part (λ q. q.entries) in
    record {
      rows = part (λ q. q.rows);
      row = part (λ q. q.row);
      strips_said = part (λ q. q.strips);
      entries = entries;
      bits_outside = part (λ q. q.bits_outside);
      strips-outside = part (λ q. q.strips_outside);
      bits = part (λ q. q.bits);
      offsets = part (λ q. q.offsets);
      counts = part (λ q. q.counts);
      resolutions = part (λ q. q.resolutions);
      planes = said;
      few = (omega (arith, entries-few f), omega (arith, entries-few f));
      bits_at = omega (arith, part (λ q. q.bits));
      offsets_at = omega (arith, part (λ q. q.bits), part (λ q. q.offsets), part (λ q. q.bits_outside));
      counts_at = omega (arith, part (λ q. q.offsets), part (λ q. q.counts), part (λ q. q.strips_outside));
      resolutions_at = omega (arith, part (λ q. q.counts), part (λ q. q.resolutions), part (λ q. q.strips_outside));
      planes_at_lem = omega (arith, part (λ q. q.resolutions));
      length_at = omega (arith, part (λ q. q.length));
      small = omega (arith, (front_small f p.each fit).1);
    }

pub laid : {f : Fields} {p : Plan} {out : List ℕ} → Planned f p out → Laid f p
laid h = laid_by h.fit h.is

-- the same place and length in other words
pub wrote-same : {all : List ℕ} {at at' n n' : ℕ} {old new : List ℕ} → at ≡ at' → n ≡ n' → Wrote all at n old new → Wrote all at' n' old new
wrote-same e d w = rw (e, d) at w

-- what is written keeps the buffer's length
pub length-wrote : {all : List ℕ} {at n : ℕ} {old new : List ℕ} → Wrote all at n old new → length new ≡ length old
length-wrote {all} {at} {n} {old} w = ap length w.stored ∙ length-stores old at n (λ q. get_or all (at + q) 0)

-- a list of numbers, of which the first n bytes are written at a place, and the rest lies ahead
pub record Going (all : List ℕ) (at n : ℕ) (rest old new : List ℕ) : Type 0 where
  pub so_far : new ≡ stores old at n (λ q. get_or all q 0)
  pub ahead : Holds all n rest

pub going : (all : List ℕ) (at : ℕ) (old : List ℕ) → Going all at 0 all old old
going all at old = record { so_far = refl; ahead = record { bytes = λ q l. ap (λ (i : ℕ). get_or all i 0) (omega arith) } }

-- the last number
pub going_last : {all : List ℕ} {at n place : ℕ} {old a b : List ℕ} (width v : ℕ) → Going all at n (stored width v) old a → at + n ≡ place → Put a place width true v b → b ≡ stores old at (n + width) (λ q. get_or all q 0)
going_last {all} {at} {n} {place} {old} {a} {b} width v g e put =
    let here : Put a (at + n) width true v b = rw (sym e) at put in
    here ∙ ap (λ (l : List ℕ). stores l (at + n) width (λ p. digit 256 p v)) g.so_far ∙ stores-on old at n width _ _ (λ p l. sym (g.ahead.bytes p (rw length-stored l) ∙ table_at width (λ i. digit 256 i v) p l))

-- and one before others
pub going_on : {all : List ℕ} {at n place : ℕ} {rest old a b : List ℕ} (width v : ℕ) → Going all at n (stored width v ++ rest) old a → at + n ≡ place → Put a place width true v b → Going all at (n + width) rest old b
going_on {all} {at} {n} {place} {rest} {old} {a} {b} width v g e put =
    let size = length-append (stored width v) rest in
    let first : Holds all n (stored width v) = holds_at (omega arith) (holds_in {i = 0} g.ahead (holds_first (stored width v) rest) (omega (arith, size))) in
    record {
      so_far = going_last width v (record { so_far = g.so_far; ahead = first }) e put;
      ahead = holds_in g.ahead (holds_second (stored width v) rest (length-stored width v)) (omega (arith, size, length-stored width v));
    }

-- a number more, behind j of one width
pub number-wrote : {all : List ℕ} {at v w : ℕ} {old a b : List ℕ} (width j : ℕ) → Wrote all at (width * j) old a → Holds all (at + width * j) (stored width v) → w ≡ v → Put a (at + width * j) width true w b → Wrote all at (width * (j + 1)) old b
number-wrote width j before h e put =
    let more : width * (j + 1) ≡ width * j + width = mul-add width j 1 ∙ ap (λ (m : ℕ). width * j + m) (mul-one width) in
    rw more (wrote_on before refl (wrote-number width _ h (rw e at put)))

-- entry i of a front
pub entry_wrote : (f : Fields) (each i : ℕ) {count last : ℕ} {old new : List ℕ} → let e = entry_of f each i in EntryPut (record { tag = e.tag; kind = e.kind; count = count; last = last }) (8 + (2 + 12 * i)) old new → i < entry_count f → count ≡ e.count → last ≡ e.last → Wrote (front f each) (8 + (2 + 12 * i)) 12 old new
entry_wrote f each i {count} {last} {old} {new} put l same_count same-last =
    let whole : EntryPut (entry_of f each i) (8 + (2 + 12 * i)) old new = rw (same_count, same-last) at put in
    wrote_part (holds_entry f each i l) refl whole.stored
