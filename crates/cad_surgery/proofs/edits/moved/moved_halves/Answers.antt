use Rattle.std.proofs.Common.{◌≡◌, ◌&&◌, ◌<◌, Bool, get_or, ◌∙◌, ap, sym, refl, subst, ◌++◌, ◌∷◌, [], length, List, filter, take, slice_get, arith}
use Rattle.std.proofs.lemmas.List.{take_all, length-map, get_or-map}
use Rattle.std.proofs.lemmas.Option.{slice_get_read}
use Rattle.half_table.specs.declared.half.Half.{Half}
use Rattle.key_lists.specs.Held.{items_at}
use Rattle.map_parts.specs.Handing.{home_of}
use Rattle.cad_rings.specs.Cycle.{Ring, anchor_of}
use Rattle.cad_map.specs.Map.{rings_at, is_in_ring, is_negative}
use Rattle.cad_map.specs.Rings.{ring_at}
use Rattle.map_parts.specs.Parts.{Parts, FitTogether, map_of, kept_at, rings_kept}
use Rattle.map_parts.specs.Placed.{moves_in}
use Rattle.cad_surgery.proofs.MovedHalves.{as-many, at-place, holes-are, next-passes, next-stays}
use Rattle.cad_surgery.proofs.edits.moved.moved_halves.Goals.{then-is_hole_inside+in_ok-push, else-is_hole_inside}
use Rattle.cad_surgery.proofs.edits.moved.moved_halves.Goals as goal

pub is_hole_inside-requires-clause-there : goal.is_hole_inside-requires-clause-there
is_hole_inside-requires-clause-there g c =
    let d = c.args.draft.now in
    let f = c.args.face.now in
    let fit = subst FitTogether c.draft.view_is c.draft.invariant in
    let many = as-many d fit c.requires f in
    let told = ap length (c.at-kept.ensures ∙ (λ i. items_at c.draft.inside.kept (c.face_place.ensures.place i)) ∙ ap (λ (q : Parts). kept_at q f) c.draft.view_is) in
    let low = c.loop-place-test.true in
    omega (arith, many, told, low)

pub index-requires : goal.index-requires
index-requires g c =
    let d = c.args.draft.now in
    let f = c.args.face.now in
    let fit = subst FitTogether c.draft.view_is c.draft.invariant in
    let many = as-many d fit c.requires f in
    let told = ap length (c.at-kept.ensures ∙ (λ i. items_at c.draft.inside.kept (c.face_place.ensures.place i)) ∙ ap (λ (q : Parts). kept_at q f) c.draft.view_is) in
    let inside = ap length c.in_ok-inside.ensures ∙ length-map (rings_at f (rings_kept d)) (λ (r : Ring). is_in_ring (map_of d) c.args.ring.now (anchor_of r)) in
    let low = c.loop-place-test.true in
    omega (arith, many, told, inside, low)

pub loop-place-preserved : goal.loop-place-preserved
loop-place-preserved g c =
    let d = c.args.draft.now in
    let f = c.args.face.now in
    let ring = c.args.ring.now in
    let i = c.loop-place.place in
    let fit = subst FitTogether c.draft.view_is c.draft.invariant in
    let lent = c.at-kept.ensures ∙ (λ i. items_at c.draft.inside.kept (c.face_place.ensures.place i)) ∙ ap (λ (q : Parts). kept_at q f) c.draft.view_is in
    let many = as-many d fit c.requires f in
    let told = ap length lent in
    let low = c.loop-place-test.true in
    let within : i < length (rings_at f (rings_kept d)) = omega (arith, many, told, low) in
    let flag : c.index.result.now ≡ is_in_ring (map_of d) ring (anchor_of (ring_at (rings_kept d) f i))
    = c.index.ensures ∙ ap (λ (l : List Bool). get_or l i c.index.result.now) c.in_ok-inside.ensures
    ∙ get_or-map (λ (r : Ring). is_in_ring (map_of d) ring (anchor_of r)) (rings_at f (rings_kept d)) i [] c.index.result.now within in
    let passes = c.is_hole_inside.ensures ∙ ap (λ (k : Bool). is_negative (map_of d) (ring_at (rings_kept d) f i) && k) flag in
    elim c.if-is_hole_inside.branch [
      | then-is_hole_inside+in_ok-push w ↦
          let half = w.index-kept-place.result in
          let at = ap (λ (l : List Half). slice_get l i) (sym lent) ∙ slice_get_read c.at-kept.result.now _ i half refl c.loop-place-test.true w.index-kept-place.is in
          ap (λ v. v.items) w.halves-is ∙ w.in_ok-push.ensures.items ∙ (λ j. c.loop-place.invariant j ++ half ∷ [])
          ∙ sym (next-passes d fit c.requires f ring i half at c.is_hole_inside.result passes w.if-is_hole_inside.true)
      | else-is_hole_inside w ↦
          let there = at-place c.at-kept.result.now i c.loop-place-test.true in
          let at = ap (λ (l : List Half). slice_get l i) (sym lent) ∙ there.1 in
          ap (λ v. v.items) w.halves-is ∙ c.loop-place.invariant
          ∙ sym (next-stays d fit c.requires f ring i there.0 at c.is_hole_inside.result passes w.if-is_hole_inside.false)
    ]

pub returns-clause-kept : goal.returns-clause-kept
returns-clause-kept g c =
    let d = c.args.draft.now in
    let f = c.args.face.now in
    let lent = c.at-kept.ensures ∙ (λ i. items_at c.draft.inside.kept (c.face_place.ensures.place i)) ∙ ap (λ (q : Parts). kept_at q f) c.draft.view_is in
    c.loop-place.invariant
    ∙ ap (filter (λ h. moves_in (map_of d) f c.args.ring.now (home_of (map_of d) d.table.rows h)))
    (ap (take c.loop-place.place) (sym lent) ∙ take_all c.loop-place.place c.at-kept.result.now c.loop-place-test.false ∙ lent)

pub returns-clause-holes : goal.returns-clause-holes
returns-clause-holes g c =
    let d = c.args.draft.now in
    let f = c.args.face.now in
    let lent = c.at-kept.ensures ∙ (λ i. items_at c.draft.inside.kept (c.face_place.ensures.place i)) ∙ ap (λ (q : Parts). kept_at q f) c.draft.view_is in
    holes-are d (subst FitTogether c.draft.view_is c.draft.invariant) c.requires f c.args.ring.now c.loop-place.halves.items
    (c.loop-place.invariant
    ∙ ap (filter (λ h. moves_in (map_of d) f c.args.ring.now (home_of (map_of d) d.table.rows h)))
    (ap (take c.loop-place.place) (sym lent) ∙ take_all c.loop-place.place c.at-kept.result.now c.loop-place-test.false ∙ lent))
