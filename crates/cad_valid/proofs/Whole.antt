-- Where V3 and V4 hold of a map of which the first broken rule can be asked, its rings are whole.
use Rattle.cad_map.specs.Map.{Map}
use Rattle.cad_map.specs.Valid.{CanBeTested, HasNoCrossing, has_distinct_positions}
use Rattle.std.specs.Prelude.{IsTrue}
use Rattle.cad_map.specs.Crossings.{HasPlacedRows}
use Rattle.cad_map.specs.Rings.{HasWholeRings}
use Rattle.cad_map.proofs.CallerLemmas.{all_sides-once}

pub placed : (m : Map) → CanBeTested m → IsTrue (has_distinct_positions m) → HasPlacedRows m
placed m tested v3 = record { v1 = tested.v1; v2 = tested.v2; v3 = v3 }

pub whole : (m : Map) → CanBeTested m → IsTrue (has_distinct_positions m) → HasNoCrossing m → HasWholeRings m
whole m tested v3 v4 = let v5 = tested.v5 v3 v4 in record { v1 = tested.v1; v5 = v5; once = all_sides-once m (placed m tested v3) v4 v5 }
