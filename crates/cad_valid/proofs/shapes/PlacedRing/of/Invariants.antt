use Rattle.std.proofs.Common.{◌≡◌, min, fold, map}
use Rattle.cad_rings.specs.Cycle.{placed}
use Rattle.cad_map.specs.Map.{position_of}
use Rattle.cad_valid.proofs.shapes.PlacedRing.of.Given as goal

-- the sides so far, the least of their points, and where the last one ended
abbrev pub invariant-loop-from : goal.invariant-loop-from
invariant-loop-from g l =
    record {
      sides : l.placed.items ≡ placed (position_of (g.M.MapView.map l.map)) l.yielded;
      least : l.least ≡ fold min l.initial.least (map (λ s. s.0) l.yielded);
      ended : l.at ≡ position_of (g.M.MapView.map l.map) l.end;
    }
