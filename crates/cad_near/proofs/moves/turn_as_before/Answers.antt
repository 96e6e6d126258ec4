use Rattle.std.proofs.Common.{refl, subst, take, List}
use Rattle.std.specs.List.{AllByRecursion}
use Rattle.std.proofs.lemmas.Option.{slice_get_read}
use Rattle.cad_map.proofs.CallerLemmas.{All-push, Contains-at, take-more}
use Rattle.cad_near.specs.declared.rays.Ray.{Ray}
use Rattle.cad_near.specs.Moves.{TurnAlong}
use Rattle.cad_near.proofs.MovedRings.{ray-side}
use Rattle.cad_near.proofs.moves.turn_as_before.Goals as goal

pub turns_if_of_face-requires-clause-side : goal.turns_if_of_face-requires-clause-side
turns_if_of_face-requires-clause-side g c =
    let rays = c.args.rays.now in
    let k = c.loop-ray.ray-index in
    let ray = c.ray-item.result in
    ray-side (g.M.MapView.map c.args.map.now) c.requires.whole c.args.moved.now.point rays c.requires.rays ray
    (Contains-at rays k ray (slice_get_read rays _ k ray refl c.loop-ray-test.true c.ray-item.is))

pub loop-ray-preserved : goal.loop-ray-preserved
loop-ray-preserved g c =
    let rays = c.args.rays.now in
    let k = c.loop-ray.ray-index in
    let ray = c.ray-item.result in
    let Q = λ (r : Ray). TurnAlong (g.M.MapView.map c.args.map.now) c.args.face.now c.args.moved.now c.args.clear r.far in
    subst (λ (rs : List Ray). AllByRecursion Q rs) (take-more rays k ray (slice_get_read rays _ k ray refl c.loop-ray-test.true c.ray-item.is))
    (All-push Q (take k rays) ray c.loop-ray.invariant (c.turns_if_of_face.ensures c.if-not-turns_if_of_face.false))
