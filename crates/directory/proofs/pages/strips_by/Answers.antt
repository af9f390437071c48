-- `directory::pages::strips_by` meets its contract: the fields one by one. Assumes nothing.
use Prim.Native.Nat.{◌*◌}
use Rattle.directory.specs.Page.{strips_by}
use Rattle.layout.specs.Layout.{encoded_width, plane_channels}
use Rattle.layout.specs.declared.RasterLayout.{RasterLayout}
use mathlib.Core.Path.{◌≡◌, ap}
use Rattle.directory.proofs.pages.strips_by.Goals as goal

pub returns : goal.returns
unfolding strips_by
returns c =
    let is : c.args.l.encoded_width * c.args.l.plane_channels ≡ encoded_width c.args.t.fields * plane_channels c.args.t.fields = ap (λ (r : RasterLayout). r.encoded_width * r.plane_channels) c.requires.0 in
    rw (c.row_bytes.ensures, is)
