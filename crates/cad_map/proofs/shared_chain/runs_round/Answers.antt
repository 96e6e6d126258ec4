use Rattle.std.proofs.Common.{sym, subst}
use Rattle.std.specs.List.{Contains}
use Rattle.cad_map.specs.Map.{all_sides}
use Rattle.cad_map.specs.Walk.{walking}
use Rattle.cad_map.proofs.Boundaries.RingsOfMap.{whole_valid}
use Rattle.cad_map.proofs.Walks.Walked.{first-in_all}
use Rattle.cad_map.proofs.shared_chain.runs_round.Goals as goal

pub run_back-requires-clause-there : goal.run_back-requires-clause-there
run_back-requires-clause-there g c =
    let m = g.M.MapView.map c.args.map.now in
    let told = c.of_ring.ensures in
    subst (Contains (all_sides m)) (sym c.first_side-from.ensures)
    (first-in_all m (g.M.MapView.rings c.args.map.now) (whole_valid m c.requires.valid) told.canonical_order told.two c.args.face.now c.args.place c.requires.there
    _ (walking g.M.MapView.map g.M.MapView.view_next c.of_ring.result) told.along)
