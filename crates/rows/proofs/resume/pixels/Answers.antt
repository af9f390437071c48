-- `rows::resume::pixels` meets its contract: none, more than four channels word by word, or at most four and the last pixel read back.
-- Assumes nothing.
use Rattle.std.proofs.Common.{◌<◌, length, arith}
use Rattle.rows.proofs.Running.{pixels_ran}
use Rattle.rows.proofs.resume.pixels.Goals as goal

pub returns : goal.returns
returns c =
    let more : 0 < length c.args.raw.now = omega arith in
    pixels_ran c.requires more c.args.form.le c.args.form.out_le c.rows.ensures c.held.ensures
