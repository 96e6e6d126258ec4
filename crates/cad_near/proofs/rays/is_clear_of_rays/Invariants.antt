use Rattle.std.proofs.Common.{◌≡◌, drop}
use Rattle.std.specs.List.{list_all}
use Rattle.cad_near.specs.Rays.{is_clear_of_ray}
use Rattle.cad_near.proofs.rays.is_clear_of_rays.Given as goal

-- the rays that are left decide
abbrev pub invariant-loop-ray : goal.invariant-loop-ray
invariant-loop-ray l =
    let clear = is_clear_of_ray l.at l.after l.before in
    list_all clear l.rays ≡ list_all clear (drop l.ray-index l.rays)
