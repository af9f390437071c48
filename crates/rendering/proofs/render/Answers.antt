-- `rendering::render` meets its promise: the refusals, then the rows. Assumes nothing.
use Rattle.answer.specs.Outcome.{Sound}
use Rattle.answer.proofs.Promised.{finishes, step-sound}
use Rattle.pixels.specs.Render.{render_faults, converted}
use Rattle.rendering.proofs.Picture.{render_served}
use Rattle.rendering.proofs.render.Goals.{In_ok-check_render}
use Rattle.rendering.proofs.render.Goals as goal

-- no fault was found
sound : (c : In_ok-check_render) → let args = c.args in Sound (render_faults args.l args.file.now args.raw.now args.out.now)
sound c =
    step-sound c.check_render.ensures c.in_ok-check_render.was

pub render_rows-requires : goal.render_rows-requires
render_rows-requires c =
    let args = c.args in
    render_served args.l args.file.now args.raw.now args.out.now (sound (goal.at.render_rows-requires c).In_ok-check_render)

pub returns : goal.returns
returns c =
    let args = c.args in
    finishes (render_faults args.l args.file.now args.raw.now args.out.now) tt args.l.output_len (converted args.l args.file.now args.raw.now) _ _ (sound (goal.at.returns c).In_ok-check_render) c.render_rows.ensures
