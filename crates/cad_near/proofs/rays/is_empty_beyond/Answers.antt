use Rattle.std.proofs.Common.{◌∙◌, sym}
use Rattle.std.specs.List.{list_all}
use Rattle.cad_rings.specs.Surgery.{corner}
use Rattle.cad_near.specs.Rays.{is_clear_of_ray}
use Rattle.cad_valid.proofs.CallerLemmas.{empty-after, empty-no_side}
use Rattle.cad_near.proofs.RaysOfPoint.{placed, clear-is}
use Rattle.cad_near.proofs.rays.is_empty_beyond.Goals as goal

pub position_among-requires : goal.position_among-requires
position_among-requires g c = placed (g.M.MapView.map c.args.map.now) c.args.point c.args.rays.now c.requires.rays

pub returns-in-Some : goal.returns-in-Some
returns-in-Some g c =
    let m = g.M.MapView.map c.args.map.now in
    let ray = c.args.ray.now in
    let rays = c.args.rays.now in
    c.is_clear_of_rays.ensures
    ∙ (λ i. list_all (is_clear_of_ray (c.requires.at i) (c.position_among.ensures i) (c.requires.placed i)) rays)
    ∙ clear-is m c.args.point rays c.requires.rays c.in-Some.after ray.far
    ∙ sym (empty-after m c.requires.whole (corner ray.far c.args.point c.in-Some.after) c.in-Some.ensures.some)

pub returns-in-None : goal.returns-in-None
returns-in-None g c = sym (empty-no_side (g.M.MapView.map c.args.map.now) c.requires.whole (c.args.ray.now.far, c.args.point) c.in-None.ensures.none)
