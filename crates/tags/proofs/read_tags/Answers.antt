-- `tags::read_tags` meets its contract: the way to the directory, then its tags. Assumes nothing.
use Rattle.answer.proofs.Promised.{first_more, refusing, sound_skip}
use Rattle.answer.proofs.Handed.{handed_outcome}
use Rattle.entries.proofs.Walking.{page_found, page_room, page_unopened}
use Rattle.entries.specs.Entries.{directory}
use Rattle.tags.specs.Tags.{said_faults, tag_faults}
use mathlib.Core.Path.{◌∙◌, sym}
use Rattle.tags.proofs.read_tags.Goals as goal

pub read_used-requires : goal.read_used-requires
read_used-requires c =
    let args = c.args in
    page_room args.file.now args.page c.open_directory.result c.open_directory.ensures _ c.in_ok-d.was

pub returns-in_err-d : goal.returns-in_err-d
returns-in_err-d c =
    let args = c.args in
    handed_outcome _ _ c.from_residual.ensures ∙ refusing (tag_faults args.file.now args.page) _ (first_more _ (page_unopened args.file.now args.page c.open_directory.result c.open_directory.ensures _ c.in_err-d.was))

pub returns : goal.returns
returns c =
    let args = c.args in
    let file = args.file.now in
    let found = page_found file args.page c.open_directory.result c.open_directory.ensures _ c.in_ok-d.was in
    rw found.0 at c.read_used.ensures ∙ sym (sound_skip (said_faults file (directory file args.page)) _ found.1)
