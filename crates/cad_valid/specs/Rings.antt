-- Rings of points of a map.
use Rattle.std.specs.Prelude.{◌≤◌, ◌*◌, length, IsTrue}
use Rattle.std.specs.List.{AllByRecursion}
use Rattle.cad_rows.specs.Limits.{string_limit}
use Rattle.cad_rings.specs.Cycle.{Ring}
use Rattle.cad_map.specs.Map.{Map, has_point}

-- the ring is one of three points of the map or more, with no more sides than its strings may have
pub record IsRingOf (m : Map) (ring : Ring) : Type 0 where
  pub points : AllByRecursion (λ p. IsTrue (has_point m p)) ring
  pub three : 3 ≤ length ring
  pub few : length ring ≤ 2 * string_limit
