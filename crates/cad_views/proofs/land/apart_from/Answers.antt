use Rattle.std.proofs.Common.{◌∙◌, ap, filter, not, List}
use Rattle.std.proofs.lemmas.List.{take_all}
use Rattle.geo_exact.specs.Position.{Position}
use Rattle.cad_views.specs.Land.{apart_from, is_among}
use Rattle.cad_views.proofs.land.apart_from.Goals as goal

pub returns : goal.returns
unfolding apart_from
returns c =
    c.loop-index.invariant ∙ ap (λ (l : List Position). filter (λ a. not (is_among c.args.ordered.now a)) l) (take_all c.loop-index.index c.args.places.now c.loop-index-test.false)
