-- The rings of a map whose points and strings break no rule.
use Rattle.std.specs.Prelude.{◌≢◌, ℕ, List, []}
use Rattle.std.specs.List.{slice_index_or}
use Rattle.cad_rows.specs.declared.names.Face.{Face}
use Rattle.cad_rings.specs.Cycle.{Ring}
use Rattle.cad_map.specs.declared.boundary.Boundary.{Boundary}
use Rattle.cad_map.specs.Map.{Map, all_sides, rings_at}
use Rattle.cad_map.specs.Valid.{HasSoundRows, HasCompleteRings, EachPair}

-- a map of which V1 and V5 hold, and in which no side stands twice
pub record HasWholeRings (m : Map) : Type 0 where
  pub v1 : HasSoundRows m
  pub v5 : HasCompleteRings m
  pub once : EachPair (λ a b. a ≢ b) (all_sides m)

-- the ring of a face at a place
abbrev pub ring_at : List Boundary → Face → ℕ → Ring
ring_at bs f place = slice_index_or (rings_at f bs) place []
