use Rattle.std.proofs.Common.{◌≡◌, List, ℕ, Option, Some, subst, refl, map}
use Rattle.cad_rings.specs.Cycle.{Corner}
use Rattle.cad_rows.specs.declared.names.Face.{Face}
use Rattle.cad_map.specs.Map.{Map}
use Rattle.half_table.specs.Rows.{origin_of, cycle}
use Rattle.cad_laws.specs.Faces.{left_of_chain}
use Rattle.cad_laws.specs.Tried.{AreChosen}
use Rattle.cad_edit.specs.Admitted.{AreCorners}
use Rattle.map_parts.specs.Parts.{FitTogether, map_of}
use Rattle.cad_surgery.proofs.DividedCrossing.{first-in, last-in, crossing}
use Rattle.cad_surgery.proofs.edits.crossing.crossing_of.Goals as goal

-- the corners that were found are the chosen ones
are-chosen : (m : Map) (face : Face) (chain : List ℕ) (corners : Option (Corner × Corner)) (both : Corner × Corner)
    → AreCorners m face chain corners → corners ≡ Some both → AreChosen m face chain both.0 both.1
are-chosen m face chain corners both found is =
    let told = subst (AreCorners m face chain) is found in
    record { first_is = told.0; last_is = told.1 }

pub half_leaving-start-requires : goal.half_leaving-start-requires
half_leaving-start-requires g c =
    let d = c.args.draft.now in
    let e = c.args.division.now in
    let both = c.unwrap-first.result in
    first-in d (subst FitTogether c.draft.view_is c.draft.invariant) e c.requires.tried both.0 both.1
    (are-chosen (map_of d) e.face e.points.now c.args.corners both c.requires.corners c.unwrap-first.ensures)

pub half_leaving-end-requires : goal.half_leaving-end-requires
half_leaving-end-requires g c =
    let d = c.args.draft.now in
    let e = c.args.division.now in
    let both = c.unwrap-first.result in
    last-in d (subst FitTogether c.draft.view_is c.draft.invariant) e c.requires.tried both.0 both.1
    (are-chosen (map_of d) e.face e.points.now c.args.corners both c.requires.corners c.unwrap-first.ensures)

pub moved_over-requires-clause-chosen : goal.moved_over-requires-clause-chosen
moved_over-requires-clause-chosen g c =
    let e = c.args.division.now in
    are-chosen (map_of c.args.draft.now) e.face e.points.now c.args.corners c.unwrap-first.result c.requires.corners c.unwrap-first.ensures

pub returns : goal.returns
returns g c =
    let d = c.args.draft.now in
    let e = c.args.division.now in
    let both = c.unwrap-first.result in
    let ring = map (origin_of d.table.rows) (cycle d.table.rows c.half_leaving-start.result) in
    let over = c.in_ok-moved.ensures in
    crossing d (subst FitTogether c.draft.view_is c.draft.invariant) e c.requires.tried both.0 both.1
    (are-chosen (map_of d) e.face e.points.now c.args.corners both c.requires.corners c.unwrap-first.ensures)
    c.half_leaving-start.result c.half_leaving-start.ensures ring refl c.half_leaving-end.result c.half_leaving-end.ensures
    (left_of_chain e.points.now both.0 both.1 ring) refl over.holes over.holes_are c.in_ok-moved.moved.items over.off
