use Rattle.std.proofs.Common.{arith}
use Rattle.cell_grid.proofs.block.block_of.Goals as goal

pub returns-clause-block : goal.returns-clause-block
returns-clause-block c =
    let ax = c.place_along-a_column.ensures.within in
    let ay = c.place_along-a_row.ensures.within in
    let bx = c.place_along-b_column.ensures.within in
    let by = c.place_along-b_row.ensures.within in
    record { across = omega arith; up = omega arith; right = omega arith; top = omega arith }
