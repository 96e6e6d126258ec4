use Rattle.std.proofs.Common.{◌∙◌, ap, List, ◌++◌, filter, true, false}
use Rattle.cad_rings.specs.Cycle.{Ring}
use Rattle.cad_map.specs.Outline.{is_outer}
use Rattle.cad_views.proofs.well_known.with_outlines_first.Goals as goal

pub returns : goal.returns
returns g c =
    let m = g.M.MapView.map c.args.map.now in
    c.in_ok-push_outlines-2.ensures ∙ ap (λ (l : List Ring). l ++ filter (is_outer m false) c.args.rings.now) (c.in_ok-push_outlines.ensures ∙ ap (λ (l : List Ring). l ++ filter (is_outer m true) c.args.rings.now) c.new-ordered.ensures.items)
