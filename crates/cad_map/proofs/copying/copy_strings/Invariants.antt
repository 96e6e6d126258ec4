use Rattle.std.proofs.Common.{◌≡◌, take}
use Rattle.cad_map.proofs.copying.copy_strings.Given as goal

-- the strings up to the place are put
abbrev pub invariant-loop-place : goal.invariant-loop-place
invariant-loop-place g l = l.made ≡ record l.initial.made { strings = take l.place (g.M.MapView.map l.view).strings }
