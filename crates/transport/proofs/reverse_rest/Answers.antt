-- `transport::reverse_rest` meets its contract: the table is right, by one computed test of all of it. Assumes nothing.
use mathlib.Core.Path.{refl}
use Rattle.laws.proofs.Tabled.{tabled}
use Rattle.transport.proofs.reverse_rest.Goals as goal

pub reverse_by_table-requires : goal.reverse_by_table-requires
reverse_by_table-requires c =
    tabled refl
