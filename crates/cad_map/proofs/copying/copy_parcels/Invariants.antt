use Rattle.std.proofs.Common.{◌≡◌, take}
use Rattle.cad_map.proofs.copying.copy_parcels.Given as goal

-- the parcels up to the place are put
abbrev pub invariant-loop-place : goal.invariant-loop-place
invariant-loop-place g l = l.made ≡ record l.initial.made { parcels = take l.place (g.M.MapView.map l.view).parcels }
