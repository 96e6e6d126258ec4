use Rattle.std.proofs.Common.{rules}
use Rattle.cell_grid.proofs.bounds.bounds_of.Goals as goal

pub returns : goal.returns
returns c = search rules
