use Rattle.std.proofs.Common.{◌≡◌, true≢false, sym, ap, ◌∙◌, subst, [], filter, map, length, not}
use Rattle.std.proofs.lemmas.Result.{IfOk-weaker}
use Rattle.std.specs.Prelude.{IfOk}
use Rattle.cad_rows.specs.declared.names.Face.{Face}
use Rattle.cad_rings.specs.Cycle.{Ring, has_side, sides_of}
use Rattle.cad_map.proofs.CallerLemmas.{whole_valid}
use Rattle.key_lists.specs.Held.{items_at}
use Rattle.half_table.specs.Rows.{origin_of, cycle}
use Rattle.half_paths.specs.Path.{AreIn}
use Rattle.cad_laws.specs.Faces.{left_of_chain}
use Rattle.cad_laws.specs.Local.{side_by}
use Rattle.map_parts.specs.Handing.{home_of}
use Rattle.map_parts.specs.Parts.{Parts, FitTogether, map_of, kept_at}
use Rattle.map_parts.specs.Placed.{AreOfHoles, moves_in}
use Rattle.cad_surgery.specs.Divisions.{AreMovedOver}
use Rattle.cad_surgery.proofs.CrossedRing.{can-be}
use Rattle.cad_surgery.proofs.DividedCrossing.{ends-apart, has-first, has-last, holes-in}
use Rattle.cad_surgery.proofs.MovedHalves.{holes-are}
use Rattle.cad_surgery.proofs.OneRing.{none-passes}
use Rattle.cad_surgery.proofs.edits.crossing.moved_over.Goals.{in-Parcel, in_default}
use Rattle.cad_surgery.proofs.edits.crossing.moved_over.Goals as goal

-- a parcel of one ring keeps no half that passes over
pub returns-then-kept-eq1 : goal.returns-then-kept-eq1
returns-then-kept-eq1 g c =
    let d = c.args.draft.now in
    let e = c.args.division.now in
    let f = e.face in
    let fit = subst FitTogether c.draft.view_is c.draft.invariant in
    let valid = c.requires.tried.valid in
    let lent = c.at-kept.ensures ∙ (λ i. items_at c.draft.inside.kept (c.face_place.ensures.place i)) ∙ ap (λ (q : Parts). kept_at q f) c.draft.view_is in
    let one : length (kept_at d f) ≡ 1 = sym (ap length lent) ∙ c.if-kept-eq1.true in
    let left = left_of_chain e.points.now c.args.first.now c.args.last.now (map (origin_of d.table.rows) (cycle d.table.rows c.args.start.now)) in
    elim c.match-matches.branch [
      | in-Parcel w ↦ record {
        holes = [];
        holes_are = holes-are d fit (whole_valid (map_of d) valid) f left []
            (sym (subst (λ (k : Face). length (kept_at d k) ≡ 1 → filter (λ h. moves_in (map_of d) k left (home_of (map_of d) d.table.rows h)) (kept_at d k) ≡ [])
            (sym w.in-Parcel.is) (λ alone. none-passes d fit valid w.in-Parcel.field-0 alone left) one));
        off = c.new.ensures.items;
      }
      | in_default w ↦ absurd (true≢false (sym c.if-matches.true ∙ w.matches-is))
    ]

pub left_of-requires-clause-long : goal.left_of-requires-clause-long
left_of-requires-clause-long g c = (can-be (map_of c.args.draft.now) c.args.division.now c.requires.tried).long

pub left_of-requires-clause-apart : goal.left_of-requires-clause-apart
left_of-requires-clause-apart g c =
    ends-apart c.args.draft.now (subst FitTogether c.draft.view_is c.draft.invariant) c.args.division.now c.requires.tried
    c.args.first.now c.args.last.now c.requires.chosen

pub left_of-requires-clause-has_first : goal.left_of-requires-clause-has_first
left_of-requires-clause-has_first g c =
    has-first c.args.draft.now (subst FitTogether c.draft.view_is c.draft.invariant) c.args.division.now c.requires.tried
    c.args.first.now c.args.last.now c.requires.chosen c.args.start.now c.requires.along c.in_ok-cut.cut c.in_ok-cut.ensures

pub left_of-requires-clause-has_last : goal.left_of-requires-clause-has_last
left_of-requires-clause-has_last g c =
    has-last c.args.draft.now (subst FitTogether c.draft.view_is c.draft.invariant) c.args.division.now c.requires.tried
    c.args.first.now c.args.last.now c.requires.chosen c.args.start.now c.requires.along c.in_ok-cut.cut c.in_ok-cut.ensures

pub moved_halves-requires : goal.moved_halves-requires
moved_halves-requires g c = whole_valid (map_of c.args.draft.now) c.requires.tried.valid

pub halves_off-requires : goal.halves_off-requires
halves_off-requires g c =
    subst (AreIn c.args.draft.now.table.rows) (sym c.as_slice.ensures.value)
    (holes-in c.args.draft.now (subst FitTogether c.draft.view_is c.draft.invariant) c.args.division.now c.in_ok-left.left c.in_ok-holes.holes.items c.in_ok-holes.ensures.holes)

pub returns : goal.returns
returns g c =
    let d = c.args.draft.now in
    let e = c.args.division.now in
    subst (λ (r : Ring). IfOk c.halves_off.result (λ moved. AreMovedOver (map_of d) d.table.rows e c.args.first.now c.args.last.now r moved.items)) c.in_ok-cut.ensures
    (IfOk-weaker c.halves_off.result _ _ (λ moved is. record {
      holes = c.in_ok-holes.holes.items;
      holes_are = subst (λ (r : Ring). AreOfHoles (map_of d) d.table.rows e.face r c.in_ok-holes.holes.items) c.in_ok-left.ensures c.in_ok-holes.ensures.holes;
      off = is ∙ ap (filter (λ h. not (has_side (side_by d.table.rows h) (sides_of c.in_ok-cut.cut)))) c.as_slice.ensures.value;
    }) c.halves_off.ensures)
