-- What stands before the planes of a file, and where: the header, the entries, and the values outside them. Assumes nothing.
use Prim.Native.Nat.{ℕ, ◌+◌, ◌*◌, ◌≤◌, ◌<◌}
use mathlib.Core.Path.{◌≡◌, refl, ap, ◌∙◌}
use mathlib.Core.List.{List, ◌++◌}
use native.Mathlib.Omega.{arith}
use lib.ListN.{length, length-append}
use Rattle.laws.specs.Turns.{end_to_end}
use Rattle.layout.specs.declared.Fields.{Fields}
use Rattle.files.specs.File.{stored, numbers, strips, strip_bytes, strip_place, outside, entry_count, bits_place, offsets_place, counts_place, resolutions_place, planes_place, bits_of, entry_of, entry_bytes, header, directory, values, front}
use Rattle.files.proofs.Holding.{Holds, holds_at, holds_first, holds_second, holds_in, length-each, holds_each, length-numbers, holds_number}

-- two lists end to end, one of which holds a part
pub before : (a b : List ℕ) {part : List ℕ} {i : ℕ} → Holds a i part → i + length part ≤ length a → Holds (a ++ b) i part
before a b h room = holds_at (omega arith) (holds_in (holds_first a b) h room)

pub behind : (a b : List ℕ) {part : List ℕ} {n i : ℕ} → length a ≡ n → Holds b i part → i + length part ≤ length b → Holds (a ++ b) (n + i) part
behind a b e h room = holds_in (holds_second a b e) h room

module _ (f : Fields) (each : ℕ) where
  abbrev entry : ℕ → List ℕ
  entry i = entry_bytes (entry_of f each i)

  abbrev said : List ℕ
  said = end_to_end (entry_count f) (λ i. entry_bytes (entry_of f each i))

  abbrev bits : List ℕ
  bits = numbers 2 (outside 2 f.ch) (λ j. bits_of f)

  abbrev places : List ℕ
  places = numbers 4 (outside 4 (strips f each)) (strip_place f each)

  abbrev lengths : List ℕ
  lengths = numbers 4 (outside 4 (strips f each)) (strip_bytes f each)

  abbrev ones : List ℕ
  ones = numbers 4 2 (λ j. 1)

  length_said : length said ≡ 12 * entry_count f
  length_said = length-each (entry_count f) 12 entry (λ k. refl)

  length-directory : length (directory f each) ≡ 2 + (12 * entry_count f + 4)
  length-directory =
      length-append (stored 2 (entry_count f)) (said ++ stored 4 0) ∙ ap (λ (m : ℕ). 2 + m) (length-append said (stored 4 0) ∙ ap (λ (m : ℕ). m + 4) length_said)

  length-values : length (values f each) ≡ 2 * outside 2 f.ch + (4 * outside 4 (strips f each) + (4 * outside 4 (strips f each) + 16))
  length-values =
      length-append bits (places ++ (lengths ++ (ones ++ ones)))
      ∙ omega (arith, length-append places (lengths ++ (ones ++ ones)), length-append lengths (ones ++ ones), length-numbers 2 (outside 2 f.ch) (λ j. bits_of f), length-numbers 4 (outside 4 (strips f each)) (strip_place f each), length-numbers 4 (outside 4 (strips f each)) (strip_bytes f each))

  pub length_front : length (front f each) ≡ planes_place f each
  unfolding front bits_place offsets_place counts_place resolutions_place planes_place
  length_front =
      length-append header (directory f each ++ values f each)
      ∙ omega (arith, length-append (directory f each) (values f each), length-directory, length-values)

  -- the three parts
  pub holds_header : Holds (front f each) 0 header
  unfolding front
  holds_header = holds_first header (directory f each ++ values f each)

  holds_directory : Holds (front f each) 8 (directory f each)
  unfolding front
  holds_directory =
      behind header (directory f each ++ values f each) {i = 0} refl (holds_first (directory f each) (values f each)) (omega (arith, length-append (directory f each) (values f each)))

  holds_values : Holds (front f each) (bits_place f) (values f each)
  unfolding front bits_place
  holds_values =
      holds_at (omega arith) (behind header (directory f each ++ values f each) refl (holds_second (directory f each) (values f each) length-directory) (omega (arith, length-append (directory f each) (values f each), length-directory)))

  -- the directory: how many entries, each, and that none follows
  pub holds_count : Holds (front f each) 8 (stored 2 (entry_count f))
  holds_count = holds_in {i = 0} holds_directory (holds_first (stored 2 (entry_count f)) (said ++ stored 4 0)) (omega (arith, length-directory))

  pub holds_entry : (i : ℕ) → i < entry_count f → Holds (front f each) (8 + (2 + 12 * i)) (entry_bytes (entry_of f each i))
  holds_entry i h =
      let next : i + 1 ≤ entry_count f = omega arith in
      let room : 12 * i + 12 ≤ length said = omega (arith, length_said) in
      let among : Holds (said ++ stored 4 0) (12 * i) (entry i) = before said (stored 4 0) (holds_each (entry_count f) 12 entry (λ k. refl) i h) room in
      holds_in holds_directory (behind (stored 2 (entry_count f)) (said ++ stored 4 0) refl among (omega (arith, length-append said (stored 4 0)))) (omega (arith, length-directory, length_said))

  pub holds_next : Holds (front f each) (8 + (2 + 12 * entry_count f)) (stored 4 0)
  holds_next =
      holds_in holds_directory (behind (stored 2 (entry_count f)) (said ++ stored 4 0) refl (holds_second said (stored 4 0) length_said) (omega (arith, length-append said (stored 4 0), length_said))) (omega (arith, length-directory))

  -- the values outside, one list after another
  holds_bits : Holds (front f each) (bits_place f) bits
  holds_bits =
      holds_at (omega arith) (holds_in {i = 0} holds_values (holds_first bits (places ++ (lengths ++ (ones ++ ones)))) (omega (arith, length-append bits (places ++ (lengths ++ (ones ++ ones))))))

  past_bits : Holds (front f each) (offsets_place f) (places ++ (lengths ++ (ones ++ ones)))
  unfolding offsets_place
  past_bits =
      holds_in holds_values (holds_second bits (places ++ (lengths ++ (ones ++ ones))) (length-numbers 2 (outside 2 f.ch) (λ j. bits_of f))) (omega (arith, length-append bits (places ++ (lengths ++ (ones ++ ones))), length-numbers 2 (outside 2 f.ch) (λ j. bits_of f)))

  past_places : Holds (front f each) (counts_place f each) (lengths ++ (ones ++ ones))
  unfolding counts_place
  past_places =
      holds_in past_bits (holds_second places (lengths ++ (ones ++ ones)) (length-numbers 4 (outside 4 (strips f each)) (strip_place f each))) (omega (arith, length-append places (lengths ++ (ones ++ ones)), length-numbers 4 (outside 4 (strips f each)) (strip_place f each)))

  pub holds_resolutions : Holds (front f each) (resolutions_place f each) (ones ++ ones)
  unfolding resolutions_place
  holds_resolutions =
      holds_in past_places (holds_second lengths (ones ++ ones) (length-numbers 4 (outside 4 (strips f each)) (strip_bytes f each))) (omega (arith, length-append lengths (ones ++ ones), length-numbers 4 (outside 4 (strips f each)) (strip_bytes f each)))

  -- and number by number
  pub holds_bit : (j : ℕ) → j < outside 2 f.ch → Holds (front f each) (bits_place f + 2 * j) (stored 2 (bits_of f))
  holds_bit j h = holds_in holds_bits (holds_number 2 (outside 2 f.ch) (λ i. bits_of f) j h) (omega (arith, length-numbers 2 (outside 2 f.ch) (λ i. bits_of f)))

  pub holds_place : (k : ℕ) → k < outside 4 (strips f each) → Holds (front f each) (offsets_place f + 4 * k) (stored 4 (strip_place f each k))
  holds_place k h =
      holds_in past_bits (before places (lengths ++ (ones ++ ones)) (holds_number 4 (outside 4 (strips f each)) (strip_place f each) k h) (omega (arith, length-numbers 4 (outside 4 (strips f each)) (strip_place f each)))) (omega (arith, length-append places (lengths ++ (ones ++ ones)), length-numbers 4 (outside 4 (strips f each)) (strip_place f each)))

  pub holds_length : (k : ℕ) → k < outside 4 (strips f each) → Holds (front f each) (counts_place f each + 4 * k) (stored 4 (strip_bytes f each k))
  holds_length k h =
      holds_in past_places (before lengths (ones ++ ones) (holds_number 4 (outside 4 (strips f each)) (strip_bytes f each) k h) (omega (arith, length-numbers 4 (outside 4 (strips f each)) (strip_bytes f each)))) (omega (arith, length-append lengths (ones ++ ones), length-numbers 4 (outside 4 (strips f each)) (strip_bytes f each)))
