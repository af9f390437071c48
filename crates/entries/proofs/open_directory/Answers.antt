-- `entries::open_directory` meets its contract: past the header the way begins. Assumes nothing.
use Prim.Native.Nat.{◌+◌, ◌≤◌, ℕ}
use Rattle.answer.proofs.Promised.{first_more, refusing, sound-here, sound_rest, sound_skip, step-first, step-sound}
use Rattle.answer.proofs.Handed.{handed_outcome}
use Rattle.answer.specs.Outcome.{Sound}
use Rattle.entries.specs.Entries.{header_faults, little, on_the_way, open_faults}
use Rattle.laws.specs.Turns.{faults_below}
use borrow.Author.Tests.{ltb-false}
use lib.ListN.{length}
use mathlib.Core.List.{List}
use mathlib.Core.Path.{◌∙◌, sym}
use native.Mathlib.Omega.{arith}
use Rattle.entries.proofs.open_directory.Goals as goal

header_read : (file : List ℕ) (page : ℕ) → Sound (header_faults file page) → 8 ≤ length file
unfolding header_faults
header_read file page s = ltb-false _ _ (sound-here (sound_rest s))

pub short-requires : goal.short-requires
short-requires c =
    let args = c.args in omega (arith, header_read args.file.now args.page (step-sound c.check_header.ensures c.in_ok-check_header.was))

pub walk-requires : goal.walk-requires
walk-requires c =
    let args = c.args in header_read args.file.now args.page (step-sound c.check_header.ensures c.in_ok-check_header.was)

pub returns-in_err-check_header : goal.returns-in_err-check_header
returns-in_err-check_header c =
    let args = c.args in
    handed_outcome _ _ c.from_residual.ensures ∙ refusing (open_faults args.file.now args.page) _ (first_more _ (step-first c.check_header.ensures c.in_err-check_header.was))

pub returns : goal.returns
returns c =
    let args = c.args in
    let file = args.file.now in
    rw c.short.ensures at c.walk.ensures ∙ sym (sound_skip (faults_below (args.page + 1) (on_the_way file (little file))) _ (step-sound c.check_header.ensures c.in_ok-check_header.was))
