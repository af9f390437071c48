-- `rows::resume::leading` meets its contract. Assumes nothing.
use Rattle.std.proofs.Common.{arith}
use Rattle.rows.proofs.Joining.{left-fits}
use Rattle.rows.proofs.resume.leading.Goals as goal

pub overflow_mul-begun : goal.overflow_mul-begun
overflow_mul-begun c =
    omega (arith, left-fits c.args.first c.args.channels c.args.width c.requires.1.0 c.requires.1.1)
