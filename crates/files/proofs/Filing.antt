-- A file's front and its planes behind it, written: the buffer is filled with the file. Assumes nothing.
use Prim.Native.Nat.{ℕ, ◌+◌, ◌-◌, ◌≤◌}
use native.Mathlib.Nat.{zero-add}
use native.Mathlib.Omega.{arith}
use mathlib.Core.Path.{◌≡◌, refl, sym, ap, ◌∙◌}
use mathlib.Core.List.{List, ◌++◌}
use lib.ListN.{length, get_or, take, drop, length-append, length-take, get_or-append}
use Rattle.answer.specs.Outcome.{Sound, Promise, unless, done}
use Rattle.answer.specs.Table.{table, filled}
use Rattle.answer.proofs.Filling.{part, length_part, part_filled, stores-filled, table_same, table_self}
use Rattle.answer.proofs.Promised.{finishes}
use Rattle.layout.specs.declared.RasterLayout.{RasterLayout}
use Rattle.layout.specs.Layout.{scratch_length}
use Rattle.files.specs.declared.plan.Plan.{Plan}
use Rattle.files.specs.File.{file_length, front, file_of, write_faults}
use Rattle.files.specs.Parts.{Asked, plan_of, Ready, Wrote, FilePut}
use Rattle.files.proofs.Asking.{scratch_is}
use Rattle.files.proofs.Holding.{holds_second}
use Rattle.files.proofs.Places.{length_front}
use Rattle.files.proofs.Writing.{laid, length-wrote}

-- a plan, planes and room
pub ready : (l : RasterLayout) (each : ℕ) (p : Plan) (planes old : List ℕ) → Asked l each → p ≡ plan_of l.fields each → l.scratch_len ≤ length planes → p.length ≤ length old → Ready l p planes old
unfolding plan_of file_length
ready l each p planes old a e all room =
    let fits : file_length l.fields each ≤ length old = rw e at room in
    rw e (record { whole = a.whole; planned = record { is = refl; fit = a.fit; room = omega (arith, fits) }; all = all; room = fits })

-- a byte of the file
abbrev pub byte_of : RasterLayout → Plan → List ℕ → ℕ → ℕ
byte_of l p planes k = get_or (file_of l.fields p.each planes) k 0

module _ {l : RasterLayout} {p : Plan} {planes old : List ℕ} (r : Ready l p planes old) where
  -- the front ends before the file does
  pub ends : p.planes ≤ p.length
  ends = omega (arith, laid r.planned)

  module _ {mid : List ℕ} (w : Wrote (front l.fields p.each) 0 p.planes old mid) where
    pub mid_room : p.length ≤ length mid
    mid_room = omega (arith, r.room, length-wrote w)

    front-filled : mid ≡ filled p.planes (byte_of l p planes) old
    front-filled =
        let before = front l.fields p.each in
        let there : length before ≡ p.planes = length_front l.fields p.each ∙ sym (laid r.planned).planes in
        w.stored
        ∙ stores-filled (byte_of l p planes) (λ q. get_or before (0 + q) 0) old old 0 p.planes (λ q h. sym (get_or-append before (take (scratch_length l.fields) planes) 0 (0 + q) (omega (arith, there)))) (omega (arith, r.planned.room)) refl
        ∙ ap (λ (n : ℕ). filled n (byte_of l p planes) old) (zero-add p.planes)

    planes-filled : {new : List ℕ} → new ≡ part 0 l.scratch_len planes → new ≡ table (p.length - p.planes) (λ k. byte_of l p planes (p.planes + k))
    planes-filled moved =
        let f = l.fields in
        let before = front f p.each in
        let there : length before ≡ p.planes = length_front f p.each ∙ sym (laid r.planned).planes in
        let scratch = scratch_is r.whole in
        let size : p.length - p.planes ≡ scratch_length f = omega (arith, laid r.planned) in
        let source = take (scratch_length f) planes in
        let whole : l.scratch_len - 0 ≡ scratch_length f = omega (arith, scratch) in
        let same : part 0 l.scratch_len planes ≡ source = ap (λ (n : ℕ). take n planes) whole in
        let some : length source ≡ p.length - p.planes = simp length-take (omega (arith, size, r.all, scratch)) in
        moved
        ∙ same
        ∙ sym (table_self source)
        ∙ ap (λ (n : ℕ). table n (λ k. get_or source k 0)) some
        ∙ table_same (p.length - p.planes) _ _ (λ k h. sym ((holds_second before source there).bytes k (omega (arith, some))))

    -- as many bytes as the planes have
    pub planes_long : length (part p.planes p.length mid) ≡ length (part 0 l.scratch_len planes)
    planes_long =
        length_part p.planes p.length mid ends mid_room ∙ omega (arith, laid r.planned, scratch_is r.whole) ∙ sym (length_part 0 l.scratch_len planes (omega arith) r.all)

    pub file_put : {new : List ℕ} → new ≡ part 0 l.scratch_len planes → take p.planes mid ++ (new ++ drop (p.length - p.planes) (drop p.planes mid)) ≡ filled p.length (byte_of l p planes) old
    file_put {new} moved = part_filled (byte_of l p planes) p.planes p.length old mid new ends front-filled (planes-filled moved)

-- the promise, where no fault is found
pub file_written : (l : RasterLayout) (each : ℕ) (p : Plan) (planes old new : List ℕ) → Asked l each → p ≡ plan_of l.fields each → l.scratch_len ≤ length planes → Sound (write_faults l each planes old) → FilePut l p planes old new → Promise (unless (write_faults l each planes old) (file_length l.fields each)) (file_of l.fields each planes) old (done p.length) new
unfolding plan_of file_length
file_written l each p planes old new a e all s put =
    let f = l.fields in
    let file = file_of f each planes in
    let filled_with : new ≡ filled (file_length f each) (λ k. get_or file k 0) old = rw e at put in
    let rest : length (take (scratch_length f) planes) ≡ scratch_length f = simp length-take (omega (arith, all, scratch_is a.whole)) in
    let size : length file ≡ file_length f each = length-append (front f each) (take (scratch_length f) planes) ∙ omega (arith, length_front f each, rest) in
    let promised : Promise (unless (write_faults l each planes old) (file_length f each)) (table (length file) (λ k. get_or file k 0)) old (done (file_length f each)) new =
    finishes (write_faults l each planes old) (file_length f each) (length file) (λ k. get_or file k 0) old new s (rw size filled_with) in
    rw e (rw (table_self file) at promised)
