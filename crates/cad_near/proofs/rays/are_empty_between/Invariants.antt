use Rattle.std.proofs.Common.{◌≡◌, drop, Bool}
use Rattle.std.specs.List.{list_all}
use Rattle.cad_near.specs.declared.rays.Ray.{Ray}
use Rattle.cad_valid.specs.Corners.{is_empty_after}
use Rattle.cad_near.proofs.rays.are_empty_between.Given as goal

-- the rays that are left decide
abbrev pub invariant-loop-ray : goal.invariant-loop-ray
invariant-loop-ray g l =
    let test : Ray → Bool = λ r. is_empty_after (g.M.MapView.map l.map) (r.far, l.point) in
    list_all test l.rays ≡ list_all test (drop l.ray-index l.rays)
