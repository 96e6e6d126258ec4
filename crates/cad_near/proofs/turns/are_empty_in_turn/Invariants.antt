use Rattle.std.proofs.Common.{◌≡◌, drop}
use Rattle.std.specs.List.{list_all}
use Rattle.cad_map.specs.declared.stars.Spoke.{Spoke}
use Rattle.cad_valid.specs.Corners.{is_empty_after}
use Rattle.cad_near.proofs.turns.are_empty_in_turn.Given as goal

-- the spokes that are left decide
abbrev pub invariant-loop-place : goal.invariant-loop-place
invariant-loop-place g l =
    let empty = λ (x : Spoke). is_empty_after (g.M.MapView.map l.map) (x.far, l.point) in
    list_all empty l.order ≡ list_all empty (drop l.place l.order)
