-- What the refusals past the record's have shown once they are passed. Assumes nothing.
use Prim.Native.Nat.{ℕ}
use mathlib.Core.List.{List}
use borrow.Author.Tests.{ltb-false}
use lib.ListN.{length, take}
use Rattle.answer.specs.Outcome.{Sound, next}
use Rattle.answer.proofs.Promised.{sound-front, sound_back}
use Rattle.layout.specs.declared.RasterLayout.{RasterLayout}
use Rattle.layout.specs.Layout.{record_faults}
use Rattle.pixels.specs.Planes.{plane_faults, write_faults}
use Rattle.writing.specs.Parts.{LevelsAsked, WriteServed}

-- all but the look at the picture's bytes
pub levels_asked : (l : RasterLayout) (picture planes : List ℕ) → Sound (record_faults l) → Sound (take 5 (plane_faults l picture planes)) → LevelsAsked l picture
levels_asked l picture planes s (next bare (next narrow (next kind (next all room)))) =
    record { sound = s; bare = bare; all = ltb-false (length picture) l.output_len all }

-- and all
pub write_served : (l : RasterLayout) (picture planes : List ℕ) → Sound (write_faults l picture planes) → WriteServed l picture planes
write_served l picture planes s = by (sound_back (record_faults l) (plane_faults l picture planes) s)
  where
    by : Sound (plane_faults l picture planes) → WriteServed l picture planes
    by (next bare (next narrow (next kind (next all (next room levels))))) =
        record {
          sound = sound-front (record_faults l) (plane_faults l picture planes) s;
          bare = bare;
          narrow = narrow;
          all = ltb-false (length picture) l.output_len all;
          room = ltb-false (length planes) l.scratch_len room;
        }
