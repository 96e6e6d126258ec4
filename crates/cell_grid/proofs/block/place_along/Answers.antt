use Rattle.std.proofs.Common.{rules, ◌≡◌, ◌/◌, ◌^◌, ◌<◌, ℕ, sym, subst}
use Rattle.cell_grid.specs.Cells.{cells_in_row, place_along}
use Rattle.cell_grid.proofs.Placed.{place-within}
use Rattle.cell_grid.proofs.block.place_along.Goals as goal

pub returns-clause-within : goal.returns-clause-within
returns-clause-within c =
    let value : c.unsigned_abs.result / 2 ^ c.args.bits ≡ place_along c.args.bits c.args.coordinate = search rules in
    subst (λ (n : ℕ). n < cells_in_row) (sym value) (place-within c.args.bits c.requires.bits c.args.coordinate c.requires.coordinate)
