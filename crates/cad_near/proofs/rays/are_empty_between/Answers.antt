use Rattle.std.proofs.Common.{◌∙◌, ap, sym, Some}
use Rattle.std.proofs.lemmas.Option.{slice_get-get_or}
use Rattle.cad_map.proofs.CallerLemmas.{All-at_each, Contains-at}
use Rattle.cad_near.specs.Rays.{IsPlacedRay}
use Rattle.cad_near.proofs.RaysOfPoint.{placed}
use Rattle.cad_near.proofs.rays.are_empty_between.Goals as goal

pub is_empty_beyond-requires-clause-placed : goal.is_empty_beyond-requires-clause-placed
is_empty_beyond-requires-clause-placed g c =
    let m = g.M.MapView.map c.args.map.now in
    let rays = c.args.rays.now in
    let at = slice_get-get_or rays c.loop-ray.ray-index c.ray-item.result c.loop-ray-test.true ∙ ap Some (sym c.ray-item.is) in
    All-at_each (IsPlacedRay m) rays c.ray-item.result (placed m c.args.point rays c.requires.rays) (Contains-at rays c.loop-ray.ray-index c.ray-item.result at)
