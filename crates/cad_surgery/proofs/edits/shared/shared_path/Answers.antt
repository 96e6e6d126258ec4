use Rattle.std.proofs.Common.{◌∙◌, ◌+◌, sym, ap, subst, not, filter, map, take, length, arith}
use Rattle.std.proofs.lemmas.List.{length-take-le}
use Rattle.half_table.specs.Cycle.{holds}
use Rattle.half_table.specs.Half.{twin}
use Rattle.half_table.specs.Rows.{next, origin_of, cycle}
use Rattle.half_paths.specs.Path.{AreIn}
use Rattle.cad_rows.specs.declared.names.Face.TheVariants.{Parcel}
use Rattle.key_lists.specs.Held.{items_at}
use Rattle.map_parts.specs.Parts.{Parts, FitTogether, kept_at}
use Rattle.cad_surgery.proofs.FoundPaths.{begin-there, finish-there, fewer, found-path, round-in}
use Rattle.cad_surgery.proofs.edits.shared.shared_path.Goals as goal

pub half_along-begin-requires : goal.half_along-begin-requires
half_along-begin-requires g c =
    let d = c.args.draft.now in
    begin-there d (subst FitTogether c.draft.view_is c.draft.invariant) c.args.kept.now c.args.ended c.requires.tried c.args.first c.args.last c.args.sides c.requires.shared

pub half_along-finish-requires : goal.half_along-finish-requires
half_along-finish-requires g c =
    let d = c.args.draft.now in
    finish-there d (subst FitTogether c.draft.view_is c.draft.invariant) c.args.kept.now c.args.ended c.requires.tried c.args.first c.args.last c.args.sides c.requires.shared
    c.half_along-begin.result c.half_along-begin.ensures

pub slice_bounds-copied-end : goal.slice_bounds-copied-end
slice_bounds-copied-end g c =
    let d = c.args.draft.now in
    let few = fewer d (subst FitTogether c.draft.view_is c.draft.invariant) c.args.kept.now c.args.ended c.requires.tried c.args.first c.args.last c.args.sides c.requires.shared
    c.half_along-begin.result c.half_along-begin.ensures in
    let ring = c.deref.ensures.value ∙ c.in_ok-ring.ensures ∙ ap (λ (q : Parts). cycle q.table.rows c.half_along-begin.result) c.draft.view_is in
    let long = ap length ring in
    sym (length-take-le c.args.sides c.deref.result.now (omega (arith, few, long)))

pub overflow_add-sides : goal.overflow_add-sides
overflow_add-sides g c =
    let d = c.args.draft.now in
    let few = fewer d (subst FitTogether c.draft.view_is c.draft.invariant) c.args.kept.now c.args.ended c.requires.tried c.args.first c.args.last c.args.sides c.requires.shared
    c.half_along-begin.result c.half_along-begin.ensures in
    let ring = c.deref-2.ensures.value ∙ c.in_ok-ring.ensures ∙ ap (λ (q : Parts). cycle q.table.rows c.half_along-begin.result) c.draft.view_is in
    let long = ap length ring in
    let small = c.deref-2.type_inv in
    omega (arith, few, long, small)

pub slice_bounds-points_round-end : goal.slice_bounds-points_round-end
slice_bounds-points_round-end g c =
    let d = c.args.draft.now in
    let few = fewer d (subst FitTogether c.draft.view_is c.draft.invariant) c.args.kept.now c.args.ended c.requires.tried c.args.first c.args.last c.args.sides c.requires.shared
    c.half_along-begin.result c.half_along-begin.ensures in
    let ring = c.deref-2.ensures.value ∙ c.in_ok-ring.ensures ∙ ap (λ (q : Parts). cycle q.table.rows c.half_along-begin.result) c.draft.view_is in
    let long = ap length ring in
    sym (length-take-le (c.args.sides + 1) c.deref-2.result.now (omega (arith, few, long)))

pub points_round-requires : goal.points_round-requires
points_round-requires g c =
    let d = c.args.draft.now in
    let h = c.half_along-begin.result in
    let ring = c.deref-2.ensures.value ∙ c.in_ok-ring.ensures ∙ ap (λ (q : Parts). cycle q.table.rows h) c.draft.view_is in
    subst (λ (q : Parts). AreIn q.table.rows (take (c.args.sides + 1) c.deref-2.result.now)) (sym c.draft.view_is)
    (subst (λ (l : _). AreIn d.table.rows (take (c.args.sides + 1) l)) (sym ring)
    (round-in d (subst FitTogether c.draft.view_is c.draft.invariant) c.args.kept.now c.args.ended c.requires.tried c.args.first c.args.last c.args.sides c.requires.shared
    h c.half_along-begin.ensures (c.args.sides + 1)))

pub returns-clause-path : goal.returns-clause-path
returns-clause-path g c =
    let d = c.args.draft.now in
    let h = c.half_along-begin.result in
    let f = c.half_along-finish.result in
    let own = c.at-own.ensures ∙ (λ i. items_at c.draft.inside.kept (c.face_place.ensures.place i)) ∙ ap (λ (q : Parts). kept_at q (Parcel c.args.ended)) c.draft.view_is in
    found-path d (subst FitTogether c.draft.view_is c.draft.invariant) c.args.kept.now c.args.ended c.requires.tried c.args.first c.args.last c.args.sides c.requires.shared
    h c.half_along-begin.ensures f c.half_along-finish.ensures
    c.in_ok-ring.ring.items (c.in_ok-ring.ensures ∙ ap (λ (q : Parts). cycle q.table.rows h) c.draft.view_is)
    c.in_ok-path.path.items (c.in_ok-path.ensures ∙ ap (take c.args.sides) c.deref.ensures.value)
    c.in_ok-points.points (c.in_ok-points.ensures ∙ (λ i. map (origin_of (c.draft.view_is i).table.rows) (take (c.args.sides + 1) (c.deref-2.ensures.value i))))
    c.at-own.result.now own
    c.in_ok-moved.moved.items (c.in_ok-moved.ensures ∙ (λ i. filter (λ k. not (holds (c.as_slice-2.ensures.value i) k)) c.at-own.result.now))
    c.next-start.result c.next-end.result
    (c.next-start.ensures.is ∙ ap (next c.draft.inside.table.rows) c.twin-back.ensures.is ∙ ap (λ (q : Parts). next q.table.rows (twin h)) c.draft.view_is)
    (c.next-end.ensures.is ∙ ap (λ (q : Parts). next q.table.rows f) c.draft.view_is)
