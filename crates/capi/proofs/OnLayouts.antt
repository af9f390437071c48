-- The layout step, with which six calls begin: what it refuses, the call over the completed record refuses with the same number;
-- and the record that it answers is the completed one, so that what is promised of one is promised of the other. Assumes nothing.
use Rattle.std.specs.Prelude.{Ok, Err}
use Prim.Native.Nat.{ℕ}
use native.Mathlib.Omega.{arith}
use mathlib.Core.Path.{◌≡◌, sym, ap, subst, ◌∙◌}
use mathlib.Core.Bool.{true}
use mathlib.Core.List.{List}
use Rattle.answer.specs.Outcome.{number, First, outcome, Answer}
use Rattle.answer.specs.Table.{table}
use Rattle.answer.specs.declared.Refusal.{Refusal}
use Rattle.answer.specs.declared.Refusal.TheVariants.{Unsupported}
use Rattle.answer.proofs.Promised.{refused_told, refusing, refuses, first_more, done-value}
use Rattle.layout.specs.declared.Fields.{Fields}
use Rattle.layout.specs.declared.RasterLayout.{RasterLayout}
use Rattle.layout.specs.Layout.{completed, layout_faults, record_faults, index_faults, source_index, LayoutChecked, Indexed}
use Rattle.pixels.specs.Render.{converted, render_faults, Rendered}
use Rattle.pixels.specs.Planes.{written, write_faults, Written}
use Rattle.files.specs.File.{file_length, file_of, asked_faults, room_faults, Measured, FileWritten}
use Rattle.files.specs.File as Files
use Rattle.capi.specs.OnLayouts.{flagged, Asked}

module _ (f : Fields) {answer : Answer RasterLayout} (checked : LayoutChecked f answer) where
  refused-first : {kind : Refusal} → answer ≡ Err kind → First (record_faults (completed f)) (number kind)
  refused-first {kind} e = first_more _ (refused_told (layout_faults f) (completed f) kind (sym (ap outcome e) ∙ checked))

  pub index_refused : {kind : Refusal} → answer ≡ Err kind → (k : ℕ) → Indexed (completed f) k (Err kind)
  index_refused e k = refusing (index_faults (completed f) k) (source_index (completed f) k) (first_more _ (refused-first e))

  pub render_refused : {kind : Refusal} → answer ≡ Err kind → (file raw old : List ℕ) → Rendered (completed f) file raw old (Err kind) old
  render_refused e file raw old =
      let l = completed f in refuses (render_faults l file raw old) tt (table l.output_len (converted l file raw)) old (first_more _ (refused-first e))

  pub write_refused : {kind : Refusal} → answer ≡ Err kind → (picture old : List ℕ) → Written (completed f) picture old (Err kind) old
  write_refused e picture old =
      let l = completed f in refuses (write_faults l picture old) tt (table l.scratch_len (written l picture)) old (first_more _ (refused-first e))

  asked_first : {kind : Refusal} → answer ≡ Err kind → (each : ℕ) → First (asked_faults (completed f) each) (number kind)
  asked_first e each = first_more _ (refused-first e)

  pub measure_refused : {kind : Refusal} → answer ≡ Err kind → (each : ℕ) → Measured (completed f) each (Err kind)
  measure_refused e each = refusing (asked_faults (completed f) each) (file_length f each) (asked_first e each)

  pub file_refused : {kind : Refusal} → answer ≡ Err kind → (each : ℕ) (planes old : List ℕ) → FileWritten (completed f) each planes old (Err kind) old
  file_refused e each planes old =
      let l = completed f in refuses (Files.write_faults l each planes old) (file_length f each) (file_of f each planes) old (first_more (room_faults l each planes old) (asked_first e each))

  pub handed_on : {l : RasterLayout} {N : Type 0} (Allowed : RasterLayout → N → Type 0) (x : N) → answer ≡ Ok l → Allowed l x → Allowed (completed f) x
  handed_on {l} Allowed x e =
      subst (λ (k : RasterLayout). Allowed k x) (sym (done-value (layout_faults f) (completed f) l (sym checked ∙ ap outcome e)))

-- a flag that is neither 0 nor 1: the step answers Unsupported, and nothing else
module _ {s : List ℕ} {answer : Answer RasterLayout} (asked : Asked s answer) (flag : flagged s ≡ true) where
  pub flag_refused : {kind : Refusal} → answer ≡ Err kind → number kind ≡ 1
  flag_refused {kind} e =
      let is = asked.unserved flag in let same : kind ≡ Unsupported = cc in ap number same

  pub flag_never_done : {l : RasterLayout} {A : Type 0} → answer ≡ Ok l → A
  flag_never_done e = let is = asked.unserved flag in absurd (let z : ◌≡◌ {A = ℕ} 0 1 = cc in omega arith)
