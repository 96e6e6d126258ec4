use Rattle.std.proofs.Common.{◌≡◌, take, map}
use Rattle.std.specs.Prelude.{flat_map}
use Rattle.cad_map.specs.declared.boundary.Boundary.{Boundary}
use Rattle.cad_views.specs.Land.{turns_round}
use Rattle.cad_views.proofs.land.turns_of.Given as goal

-- where the rings up to the place turn
abbrev pub invariant-loop-place : goal.invariant-loop-place
invariant-loop-place l = l.turns.items ≡ flat_map (turns_round l.map) (map (λ (b : Boundary). b.ring) (take l.place l.rings))
