use Rattle.std.proofs.Common.{refl, inr}
use Rattle.cell_grid.specs.Grid.{entry_of}
use Rattle.base_cases.proofs.Passed.{now_held}
use Rattle.base_cases.proofs.cells.put_spot.Goals as goal

pub returns-in-Ok : goal.returns-in-Ok
returns-in-Ok g c = (c.in-Ok.ensures.put (entry_of c.args.no c.args.a c.args.a)).1 (inr refl)

pub returns : goal.returns
returns g c =
    now_held c.put_point-in-Err.result _ (entry_of c.args.no c.args.a c.args.a)
    c.put_point-in-Err.new.self.points c.put_point-in-Err.ensures.put
