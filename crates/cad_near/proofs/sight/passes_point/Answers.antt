use Rattle.std.proofs.Common.{◌∙◌, sym}
use Rattle.cad_near.specs.Seen.{OfHeldPoint, held_point, is_lone_point, lying_point}
use Rattle.cad_near.proofs.SightOfMap.{row-passed, row-passes}
use Rattle.cad_near.proofs.sight.passes_point.Goals as goal

pub returns-then-is_lone_point : goal.returns-then-is_lone_point
unfolding OfHeldPoint
returns-then-is_lone_point g c =
    let is = c.is_lone_point.ensures ∙ (λ i. is_lone_point c.args.seen.now (c.lying_held_point.ensures i)) in
    let m = g.M.MapView.map c.args.map.now in
    row-passed lying_point m.points (is_lone_point c.args.seen.now) (held_point c.args.held.now) c.is_lone_point.result is c.if-is_lone_point.true

pub returns-else-is_lone_point : goal.returns-else-is_lone_point
unfolding OfHeldPoint
returns-else-is_lone_point g c =
    let is = c.is_lone_point.ensures ∙ (λ i. is_lone_point c.args.seen.now (c.lying_held_point.ensures i)) in
    let m = g.M.MapView.map c.args.map.now in
    row-passes lying_point m.points (is_lone_point c.args.seen.now) (held_point c.args.held.now) c.is_stale_point.result (sym is ∙ c.if-is_lone_point.false) c.is_stale_point.ensures
