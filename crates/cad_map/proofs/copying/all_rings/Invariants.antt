use Rattle.std.proofs.Common.{◌≡◌}
use Rattle.std.specs.Prelude.{flat_map}
use Rattle.cad_map.proofs.Boundaries.AllFaces.{outlined, faces_up_to}
use Rattle.cad_map.proofs.copying.all_rings.Given as goal

-- the outlines of the outside and of the parcels so far
abbrev pub invariant-loop-place : goal.invariant-loop-place
invariant-loop-place g l = let m = g.M.MapView.map l.view in l.boundaries.items ≡ flat_map (outlined m) (faces_up_to m l.place)
