use Rattle.std.proofs.Common.{take}
use Rattle.std.specs.List.{AllByRecursion}
use Rattle.cad_map.specs.Map.{Map}
use Rattle.cad_files.specs.Arrival.{AreStarsOf}
use Rattle.cad_files.specs.Corners.{LeadsAlone}
use Rattle.cad_files.proofs.repeats.lead_alone.Given as goal

abbrev pub invariant-loop-string : goal.invariant-loop-string
invariant-loop-string l =
    (m : Map) → AreStarsOf m l.stars → AllByRecursion (λ s. LeadsAlone m.strings s.row) (take l.string-index l.strings)
