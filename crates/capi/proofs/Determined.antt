-- Each promise of this crate allows one number, one content of the buffer and one lent value: it names an answer, and the promise of the
-- crate that answers allows one. Assumes nothing.
use Prim.Native.Nat.{ℕ}
use mathlib.Core.Path.{◌≡◌, refl, sym, ap, ◌∙◌, subst}
use mathlib.Core.Bool.{Bool, true, false}
use mathlib.Core.List.{List}
use Rattle.answer.specs.Outcome.{Outcome, outcome, place_outcome}
use Rattle.words.specs.Promises.{ReadWord, LoadedWord}
use Rattle.words.proofs.Determined.{read_word_determined, load_determined}
use Rattle.samples.specs.declared.Strip.{Strip}
use Rattle.samples.specs.Promises.{StripChecked, Converted, Forwarded}
use Rattle.samples.proofs.Determined.{check_strip_determined}
use Rattle.strips.proofs.Determined.{convert_determined, forward_determined}
use Rattle.damage.specs.Promises.{Marked}
use Rattle.damage.proofs.Determined.{marks_determined}
use Rattle.swaps.specs.Swapped.{Swapped}
use Rattle.swaps.proofs.Determined.{swap_components_determined}
use Rattle.transport.specs.Moved.{Committed, Reversed}
use Rattle.transport.proofs.Determined.{commit_uninit_determined, reverse_bits_determined}
use Rattle.layout.specs.declared.Fields.{Fields}
use Rattle.layout.specs.Layout.{completed, LayoutChecked, Indexed}
use Rattle.layout.proofs.Determined.{check_layout_determined, index_determined}
use Rattle.pixels.specs.Render.{Rendered}
use Rattle.pixels.specs.Planes.{Written}
use Rattle.rendering.proofs.Determined.{render_determined}
use Rattle.writing.proofs.Determined.{write_planes_determined}
use Rattle.directory.specs.Page.{DirectoryRead, StripPlaced, StripsPlaced}
use Rattle.directory.proofs.Determined.{read_directory_determined, strip_place_determined, strip_places_determined}
use Rattle.capi.specs.OnPages.{found_numbers, place_numbers}
use Rattle.files.specs.File.{Measured, FileWritten}
use Rattle.files.proofs.Determined.{file_length_determined, write_file_determined}
use Rattle.packets.specs.declared.Plan.{Plan}
use Rattle.packets.specs.declared.Started.{Started}
use Rattle.packets.proofs.Determined.{start_determined}
use Rattle.packet_numbers.specs.Numbers.{Stands, PieceOn, CloseOn}
use Rattle.packet_numbers.proofs.Standing.{Numbers, stands_once}
use Rattle.packet_numbers.proofs.Determined.{piece_determined, close_determined}
use Rattle.packbits.specs.Rows.{RowUnpacked}
use Rattle.packbits.specs.Plans.{PlanWritten, RowPacked}
use Rattle.packbits.proofs.Determined.{unpack_row_determined, write_plan_determined, pack_row_determined}
use Rattle.capi.specs.Told.{status, lent, derived_outcome, Told, Lent, StartTold}
use Rattle.capi.specs.OnLayouts.{fields_of, flagged, OnLayout, RefusedUnserved}

-- where two allowed answers are the same, and E follows besides, so are the numbers and what is lent back
module _ {D A E : Type 0} {outcome : D → Outcome A} {P Q : D → Type 0} {r s : ℕ} (one : (a b : D) → P a → Q b → (a ≡ b) × E) where
  told_once : Told outcome P r → Told outcome Q s → (r ≡ s) × E
  told_once t u =
      let same = one t.answer u.answer t.allowed u.allowed in
      (t.number_is ∙ ap (λ (d : D). status (outcome d)) same.0 ∙ sym u.number_is, same.1)

  lent_once : {old x y : A} → Lent outcome P r old x → Lent outcome Q s old y → ((r ≡ s) × (x ≡ y)) × E
  lent_once {old} t u =
      let same = one t.answer u.answer t.allowed u.allowed in (
        (t.number_is ∙ ap (λ (d : D). status (outcome d)) same.0 ∙ sym u.number_is, t.value-is ∙ ap (λ (d : D). lent (outcome d) old) same.0 ∙ sym u.value-is),
        same.1,
      )

module _ (r s : ℕ) where
  pub hamrisk_read_word_determined : (bytes : List ℕ) (at width : ℕ) (le : Bool) (old v w : ℕ) → Lent outcome (ReadWord bytes at width le) r old v → Lent outcome (ReadWord bytes at width le) s old w → (r ≡ s) × (v ≡ w)
  hamrisk_read_word_determined bytes at width le old v w t u =
      (lent_once (λ a b p q. (read_word_determined bytes at width le a b p q, tt {0})) t u).0

  pub hamrisk_load_determined : (bytes : List ℕ) (i : ℕ) (wide le : Bool) (old v w : ℕ) → Lent outcome (LoadedWord bytes i wide le) r old v → Lent outcome (LoadedWord bytes i wide le) s old w → (r ≡ s) × (v ≡ w)
  hamrisk_load_determined bytes i wide le old v w t u =
      (lent_once (λ a b p q. (load_determined bytes i wide le a b p q, tt {0})) t u).0

  pub hamrisk_check_strip_determined : (bytes : ℕ) (g : Strip) → Told outcome (StripChecked bytes g) r → Told outcome (StripChecked bytes g) s → r ≡ s
  hamrisk_check_strip_determined bytes g t u = (told_once (λ a b p q. (check_strip_determined bytes g a b p q, tt {0})) t u).0

  module _ (raw : List ℕ) (g : Strip) (predict le out_le : Bool) (old x y : List ℕ) where
    pub hamrisk_convert_determined : Told outcome (λ d. Converted raw g predict le out_le old d x) r → Told outcome (λ d. Converted raw g predict le out_le old d y) s → (r ≡ s) × (x ≡ y)
    hamrisk_convert_determined = told_once (λ a b. convert_determined raw g predict le out_le old a b x y)

    pub hamrisk_forward_determined : Told outcome (λ d. Forwarded raw g predict le out_le old d x) r → Told outcome (λ d. Forwarded raw g predict le out_le old d y) s → (r ≡ s) × (x ≡ y)
    hamrisk_forward_determined = told_once (λ a b. forward_determined raw g predict le out_le old a b x y)

  pub hamrisk_marks_determined : (damage : List ℕ) (g : Strip) (predict : Bool) (old x y : List ℕ) (count m n : ℕ) → Lent outcome (λ d. Marked damage g predict old d x) r count m → Lent outcome (λ d. Marked damage g predict old d y) s count n → ((r ≡ s) × (m ≡ n)) × (x ≡ y)
  hamrisk_marks_determined damage g predict old x y count m n =
      lent_once (λ a b. marks_determined damage g predict old a b x y)

  pub hamrisk_swap_components_determined : (raw : List ℕ) (width : ℕ) (old x y : List ℕ) → Told outcome (λ d. Swapped raw width old d x) r → Told outcome (λ d. Swapped raw width old d y) s → (r ≡ s) × (x ≡ y)
  hamrisk_swap_components_determined raw width old x y = told_once (λ a b. swap_components_determined raw width old a b x y)

  pub hamrisk_commit_determined : (source old x y : List ℕ) → Told outcome (λ d. Committed source old d x) r → Told outcome (λ d. Committed source old d y) s → (r ≡ s) × (x ≡ y)
  hamrisk_commit_determined source old x y = told_once (λ a b. commit_uninit_determined source old a b x y)

  module _ (file : List ℕ) (page : ℕ) where
    pub hamrisk_directory_determined : (old v w : List ℕ) → Lent found_numbers (DirectoryRead file page) r old v → Lent found_numbers (DirectoryRead file page) s old w → (r ≡ s) × (v ≡ w)
    hamrisk_directory_determined old v w t u = (lent_once (λ a b p q. (read_directory_determined file page a b p q, tt {0})) t u).0

    pub hamrisk_strip_determined : (k : ℕ) (old v w : ℕ × ℕ) → Lent place_numbers (StripPlaced file page k) r old v → Lent place_numbers (StripPlaced file page k) s old w → (r ≡ s) × (v ≡ w)
    hamrisk_strip_determined k old v w t u = (lent_once (λ a b p q. (strip_place_determined file page k a b p q, tt {0})) t u).0

    pub hamrisk_strips_determined : (old x y : List ℕ) → Told outcome (λ d. StripsPlaced file page old d x) r → Told outcome (λ d. StripsPlaced file page old d y) s → (r ≡ s) × (x ≡ y)
    hamrisk_strips_determined old x y = told_once (λ a b. strip_places_determined file page old a b x y)

  module _ (layout : List ℕ) where
    on_once : {A : Type 0} {old x y : A} {P Q : Fields → Type 0} → ((f : Fields) → P f → Q f → (r ≡ s) × (x ≡ y)) → OnLayout layout P (RefusedUnserved r old x) → OnLayout layout Q (RefusedUnserved s old y) → (r ≡ s) × (x ≡ y)
    on_once {A} {old} {x} {y} one p q = by (flagged layout) refl
      where
        by : (b : Bool) → flagged layout ≡ b → (r ≡ s) × (x ≡ y)
        by true e = let u = p.unserved e in let v = q.unserved e in (u.0 ∙ sym v.0, u.1 ∙ sym v.1)
        by false e = one (fields_of layout) (p.served e) (q.served e)

    pub hamrisk_check_layout_determined : (old v w : List ℕ) → OnLayout layout (λ f. Lent derived_outcome (LayoutChecked f) r old v) (RefusedUnserved r old v) → OnLayout layout (λ f. Lent derived_outcome (LayoutChecked f) s old w) (RefusedUnserved s old w) → (r ≡ s) × (v ≡ w)
    hamrisk_check_layout_determined old v w = on_once (λ f t u. (lent_once (λ a b p q. (check_layout_determined f a b p q, tt {0})) t u).0)

    pub hamrisk_index_determined : (k old v w : ℕ) → OnLayout layout (λ f. Lent place_outcome (Indexed (completed f) k) r old v) (RefusedUnserved r old v) → OnLayout layout (λ f. Lent place_outcome (Indexed (completed f) k) s old w) (RefusedUnserved s old w) → (r ≡ s) × (v ≡ w)
    hamrisk_index_determined k old v w = on_once (λ f t u. (lent_once (λ a b p q. (index_determined (completed f) k a b p q, tt {0})) t u).0)

    pub hamrisk_render_determined : (file raw old x y : List ℕ) → OnLayout layout (λ f. Told outcome (λ d. Rendered (completed f) file raw old d x) r) (RefusedUnserved r old x) → OnLayout layout (λ f. Told outcome (λ d. Rendered (completed f) file raw old d y) s) (RefusedUnserved s old y) → (r ≡ s) × (x ≡ y)
    hamrisk_render_determined file raw old x y = on_once (λ f. told_once (λ a b. render_determined (completed f) file raw old a b x y))

    pub hamrisk_write_planes_determined : (picture old x y : List ℕ) → OnLayout layout (λ f. Told outcome (λ d. Written (completed f) picture old d x) r) (RefusedUnserved r old x) → OnLayout layout (λ f. Told outcome (λ d. Written (completed f) picture old d y) s) (RefusedUnserved s old y) → (r ≡ s) × (x ≡ y)
    hamrisk_write_planes_determined picture old x y = on_once (λ f. told_once (λ a b. write_planes_determined (completed f) picture old a b x y))

    pub hamrisk_file_length_determined : (each old v w : ℕ) → OnLayout layout (λ f. Lent outcome (Measured (completed f) each) r old v) (RefusedUnserved r old v) → OnLayout layout (λ f. Lent outcome (Measured (completed f) each) s old w) (RefusedUnserved s old w) → (r ≡ s) × (v ≡ w)
    hamrisk_file_length_determined each old v w = on_once (λ f t u. (lent_once (λ a b p q. (file_length_determined (completed f) each a b p q, tt {0})) t u).0)

    pub hamrisk_write_file_determined : (each : ℕ) (planes : List ℕ) (length m n : ℕ) (old x y : List ℕ) → OnLayout layout (λ f. Lent outcome (λ a. FileWritten (completed f) each planes old a x) r length m) (RefusedUnserved {A = ℕ × List ℕ} r (length, old) (m, x)) → OnLayout layout (λ f. Lent outcome (λ a. FileWritten (completed f) each planes old a y) s length n) (RefusedUnserved {A = ℕ × List ℕ} s (length, old) (n, y)) → (r ≡ s) × (◌≡◌ {A = ℕ × List ℕ} (m, x) (n, y))
    hamrisk_write_file_determined each planes length m n old x y =
        on_once (λ f t u. let one = lent_once (λ a b. write_file_determined (completed f) each planes old a b x y) t u in (one.0.0, rw (one.0.1, one.1)))

pub hamrisk_reverse_bits_determined : (old x y : List ℕ) → Reversed old x → Reversed old y → x ≡ y
hamrisk_reverse_bits_determined = reverse_bits_determined

-- the calls on packets; what is lent as a state is 80 numbers of 64 bits
pub hamrisk_packets_start_determined : (p : Plan) (r s : ℕ) (x y : List ℕ) → Numbers x → Numbers y → StartTold p r x → StartTold p s y → (r ≡ s) × (x ≡ y)
hamrisk_packets_start_determined p r s x y nx ny t u =
    let one = start_determined p t.answer u.answer t.allowed u.allowed in
    (t.number_is ∙ ap (λ (a : Started). status (outcome a.answer)) one ∙ sym u.number_is, stands_once nx ny t.stands (subst (λ (a : Started). Stands a.state y) (sym one) u.stands))

pub hamrisk_packets_piece_determined : (state piece old : List ℕ) (written r s m n : ℕ) (v w x y : List ℕ) → Numbers v → Numbers w → Lent outcome (λ a. PieceOn state piece old a v x) r written m → Lent outcome (λ a. PieceOn state piece old a w y) s written n → ((r ≡ s) × (m ≡ n)) × ((v ≡ w) × (x ≡ y))
hamrisk_packets_piece_determined state piece old written r s m n v w x y nv nw = lent_once (λ a b. piece_determined state piece old a b v w x y nv nw)

pub hamrisk_packets_close_determined : (state : List ℕ) (r s : ℕ) → Told outcome (CloseOn state) r → Told outcome (CloseOn state) s → r ≡ s
hamrisk_packets_close_determined state r s t u = (told_once (λ a b p q. (close_determined state a b p q, tt {0})) t u).0

pub hamrisk_unpack_row_determined : (packed old : List ℕ) (used r s m n : ℕ) (x y : List ℕ) → Lent outcome (λ a. RowUnpacked packed old a x) r used m → Lent outcome (λ a. RowUnpacked packed old a y) s used n → ((r ≡ s) × (m ≡ n)) × (x ≡ y)
hamrisk_unpack_row_determined packed old used r s m n x y = lent_once (λ a b. unpack_row_determined packed old a b x y)

pub hamrisk_write_plan_lists_determined : (row kinds lengths old : List ℕ) (length r s m n : ℕ) (x y : List ℕ) → Lent outcome (λ a. PlanWritten row kinds lengths old a x) r length m → Lent outcome (λ a. PlanWritten row kinds lengths old a y) s length n → ((r ≡ s) × (m ≡ n)) × (x ≡ y)
hamrisk_write_plan_lists_determined row kinds lengths old length r s m n x y = lent_once (λ a b. write_plan_determined row kinds lengths old a b x y)

pub hamrisk_pack_row_determined : (row old : List ℕ) (length r s m n : ℕ) (x y : List ℕ) → Lent outcome (λ a. RowPacked row old a x) r length m → Lent outcome (λ a. RowPacked row old a y) s length n → ((r ≡ s) × (m ≡ n)) × (x ≡ y)
hamrisk_pack_row_determined row old length r s m n x y = lent_once (λ a b. pack_row_determined row old a b x y)
