use Rattle.std.proofs.Common.{◌≡◌, drop, find}
use Rattle.cad_map.specs.Map.{Map}
use Rattle.cad_files.specs.Arrival.{AreStarsOf}
use Rattle.cad_files.specs.Building.{is_dangling}
use Rattle.cad_files.proofs.dangling.first_dangling.Given as goal

abbrev pub invariant-loop-string : goal.invariant-loop-string
invariant-loop-string l = (m : Map) → AreStarsOf m l.stars → find (is_dangling m) l.strings ≡ find (is_dangling m) (drop l.string-index l.strings)
