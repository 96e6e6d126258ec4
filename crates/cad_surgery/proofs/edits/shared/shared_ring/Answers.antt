use Rattle.std.proofs.Common.{◌∙◌, sym, ap, subst, not, filter, map, Option}
use Rattle.std.specs.Prelude.{IfSome}
use Rattle.cad_rows.specs.declared.names.Face.TheVariants.{Parcel}
use Rattle.half_table.specs.declared.half.Half.{Half}
use Rattle.half_table.specs.Cycle.{holds}
use Rattle.half_table.specs.Rows.{cycle, origin_of}
use Rattle.half_paths.specs.Path.{AreIn}
use Rattle.key_lists.specs.Held.{items_at}
use Rattle.map_parts.specs.Labels.{IsAlong}
use Rattle.map_parts.specs.Parts.{Parts, FitTogether, map_of, rows_of, kept_at}
use Rattle.cad_surgery.proofs.SharedRings.{some-half, ring-in, ring-found}
use Rattle.cad_surgery.proofs.edits.shared.shared_ring.Goals as goal

pub unwrap-first-requires : goal.unwrap-first-requires
unwrap-first-requires g c =
    some-half (map_of c.args.draft.now) c.requires.tried.valid c.args.kept.now (Parcel c.args.ended) c.args.side c.requires.shared c.half.result c.half.ensures.none

pub points_round-requires : goal.points_round-requires
points_round-requires g c =
    let d = c.args.draft.now in
    let h = c.unwrap-first.result in
    let along : IsAlong (rows_of d) d.table.rows (c.args.side.1, c.args.side.0) h =
    subst (λ (o : Option Half). IfSome o (IsAlong (rows_of d) d.table.rows (c.args.side.1, c.args.side.0))) c.unwrap-first.ensures c.half.ensures.some in
    subst (AreIn c.draft.inside.table.rows) (sym (c.as_slice-2.ensures.value ∙ c.in_ok-path.ensures))
    (subst (λ (q : Parts). AreIn q.table.rows (cycle q.table.rows h)) (sym c.draft.view_is)
    (ring-in d (subst FitTogether c.draft.view_is c.draft.invariant) c.args.kept.now c.args.ended c.requires.tried c.args.side c.requires.shared h along))

pub returns-clause-ring : goal.returns-clause-ring
returns-clause-ring g c =
    let d = c.args.draft.now in
    let h = c.unwrap-first.result in
    let along : IsAlong (rows_of d) d.table.rows (c.args.side.1, c.args.side.0) h =
    subst (λ (o : Option Half). IfSome o (IsAlong (rows_of d) d.table.rows (c.args.side.1, c.args.side.0))) c.unwrap-first.ensures c.half.ensures.some in
    let own = c.at-own.ensures ∙ (λ i. items_at c.draft.inside.kept (c.face_place.ensures.place i)) ∙ ap (λ (q : Parts). kept_at q (Parcel c.args.ended)) c.draft.view_is in
    ring-found d (subst FitTogether c.draft.view_is c.draft.invariant) c.args.kept.now c.args.ended c.requires.tried c.args.side c.requires.shared h along
    c.in_ok-path.path.items (c.in_ok-path.ensures ∙ ap (λ (q : Parts). cycle q.table.rows h) c.draft.view_is)
    c.at-own.result.now own
    c.in_ok-moved.moved.items (c.in_ok-moved.ensures ∙ (λ i. filter (λ k. not (holds (c.as_slice-3.ensures.value i) k)) c.at-own.result.now))
    c.in_ok-points.points (c.in_ok-points.ensures ∙ (λ i. map (origin_of (c.draft.view_is i).table.rows) (c.as_slice-2.ensures.value i)))
