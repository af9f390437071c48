-- `layout::derived::plane_channels` meets its contract: a pixel has few bytes. Assumes nothing.
use mir.Facts.{Fits-below}
use Rattle.layout.proofs.Accepted.{accepted}
use Rattle.layout.proofs.Sizes.{bytes-few}
use Rattle.layout.proofs.derived.plane_channels.Goals as goal

pub overflow_mul-result : goal.overflow_mul-result
overflow_mul-result c =
    Fits-below tt (bytes-few c.args.f (accepted c.args.f c.requires))
