-- Strings with two ends apart, and where two strings may meet.
use Rattle.std.specs.Prelude.{◌≡◌, ◌≢◌, ℕ, IsTrue}
use Rattle.geo_exact.specs.Position.{Position}
use Rattle.geo_exact.specs.Segment.{HaveCommonLocation, location}
use Rattle.cad_rows.specs.declared.rows.StringRow.{StringRow}
use Rattle.cad_map.specs.Map.{Map, has_point, is_end}
use Rattle.cad_map.specs.Valid.{HasSoundRows, HasTwoEnds, has_distinct_positions}

-- a map of which V1, V2 and V3 hold
pub record HasPlacedRows (m : Map) : Type 0 where
  pub v1 : HasSoundRows m
  pub v2 : HasTwoEnds m
  pub v3 : IsTrue (has_distinct_positions m)

-- the string leads from one point of the map to another
pub record HasTwoPoints (m : Map) (s : StringRow) : Type 0 where
  pub from_in : IsTrue (has_point m s.from)
  pub to_in : IsTrue (has_point m s.to)
  pub two : s.from ≢ s.to

-- the point is an end of both strings
pub record IsEndOfBoth (s t : StringRow) (p : ℕ) : Type 0 where
  pub of_first : IsTrue (is_end s p)
  pub of_second : IsTrue (is_end t p)

-- the segments from v to a and from v to b have no common location but v
abbrev pub HaveOnlyStart : Position → Position → Position → Type 0
HaveOnlyStart v a b = (common : HaveCommonLocation v a v b) → location common.n v common.s a ≡ location common.n v 0 v
