use Rattle.std.proofs.Common.{rules}
use Rattle.std.specs.Prelude.{Some, ◌≡◌}
use Rattle.cad_map.specs.Map.{string_of}
use Rattle.cad_map.specs.Views.{IsNoSide}
use Rattle.cad_map.proofs.Boundaries.Looks.{no_left, no_right}
use Rattle.cad_map.proofs.plain.PlainMapMapView.left_right.Goals as goal

pub returns-in_err-left-clause-none : goal.returns-in_err-left-clause-none
returns-in_err-left-clause-none c =
    let row = c.in_ok-row.row.now in
    let there : string_of c.args.self.now c.args.no ≡ Some row = search rules in
    let none : IsNoSide c.args.self.now (row.from, row.to) = rw c.in_err-left.was at c.face_of.ensures.none in
    rw c.from_residual-in_err-left.ensures (no_left c.args.self.now c.args.no row there none)

pub returns-in_err-right-clause-none : goal.returns-in_err-right-clause-none
returns-in_err-right-clause-none c =
    let row = c.in_ok-row.row.now in
    let there : string_of c.args.self.now c.args.no ≡ Some row = search rules in
    let none : IsNoSide c.args.self.now (row.to, row.from) = rw c.in_err-right.was at c.face_of-2.ensures.none in
    rw c.from_residual-in_err-right.ensures (no_right c.args.self.now c.args.no row there none)
