use Rattle.std.proofs.Common.{ℕ, ◌∙◌, sym, ap, Bool, not, filter}
use Rattle.std.specs.Prelude.{◌||◌}
use Rattle.std.specs.List.{list_all}
use Rattle.cad_rings.specs.Cycle.{anchor_of}
use Rattle.cad_map.specs.Map.{rings_at, is_positive, is_in_ring}
use Rattle.cad_map.specs.Rings.{ring_at}
use Rattle.cad_valid.proofs.holes.is_inside_if_hole.Goals as goal

pub returns-else-not-is_hole : goal.returns-else-not-is_hole
returns-else-not-is_hole g c =
    let m = g.M.MapView.map c.args.map.now in
    let bs = g.M.MapView.rings c.args.map.now in
    let rings = rings_at c.args.face.now bs in
    let hole = sym c.is_hole.ensures ∙ c.if-not-is_hole.false in
    let all = list_all (λ outline. is_in_ring m outline (anchor_of (ring_at bs c.args.face.now c.args.place))) (filter (is_positive m) rings) in
    c.is_in_outlines.ensures ∙ ap (λ (p : ℕ). list_all (λ outline. is_in_ring m outline p) (filter (is_positive m) rings)) c.anchor_of.ensures.value
    ∙ ap (λ (b : Bool). not b || all) (sym hole)
