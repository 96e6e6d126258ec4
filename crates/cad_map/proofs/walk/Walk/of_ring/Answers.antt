use Rattle.std.proofs.Common.{sym, subst}
use Rattle.std.specs.Prelude.{IsSome}
use Rattle.cad_map.specs.Walk.{walking}
use Rattle.cad_map.proofs.Boundaries.RingsOfMap.{side_is_told}
use Rattle.cad_map.proofs.Walks.Walked.{walk-begins}
use Rattle.cad_map.proofs.walk.Walk.of_ring.Goals as goal

pub unwrap-from-requires : goal.unwrap-from-requires
unwrap-from-requires g c =
    let told = c.ring_side.ensures in
    subst IsSome (sym told.side)
    (side_is_told (g.M.MapView.map c.args.map.now) (g.M.MapView.rings c.args.map.now) c.requires.whole told.canonical_order told.two c.args.face.now c.args.place c.requires.there)

pub returns-clause-along : goal.returns-clause-along
returns-clause-along g c =
    let told = c.ring_side.ensures in
    walk-begins (g.M.MapView.map c.args.map.now) (g.M.MapView.rings c.args.map.now) c.requires.whole told.canonical_order told.two c.args.face.now c.args.place c.requires.there
    (walking g.M.MapView.map g.M.MapView.view_next c.from.result) c.unwrap-from.result c.ring_side.result told.side c.unwrap-from.ensures (g.M.MapView.view_next c.args.map.now) c.from.ensures
