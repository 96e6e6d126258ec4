use Rattle.std.proofs.Common.{take}
use Rattle.std.specs.Prelude.{IsTrue}
use Rattle.std.specs.List.{AllByRecursion}
use Rattle.cad_map.specs.Map.{is_end}
use Rattle.cad_near.specs.Near.{OfString}
use Rattle.cad_near.proofs.passed.end_there.Given as goal

-- the strings so far have an end there
abbrev pub invariant-loop-place : goal.invariant-loop-place
invariant-loop-place g l = AllByRecursion (OfString (g.M.MapView.map l.map) (λ s. IsTrue (is_end s l.point))) (take l.place l.strings)
