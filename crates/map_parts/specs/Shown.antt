-- The halves of a map's strings, whatever else a table holds.
use Rattle.std.specs.Prelude.{◌≡◌}
use Rattle.cad_map.specs.Map.{Map}
use Rattle.half_table.specs.declared.half.Half.{Half}
use Rattle.half_table.specs.Rows.{HalfRows, has, next, origin_of, face}
use Rattle.cad_laws.specs.Local.{IsShown}

-- the halves of the map's strings are as they were
pub record KeepsShown (m : Map) (old new : HalfRows) : Type 0 where
  pub has : (h : Half) → IsShown m h → has new h ≡ has old h
  pub next : (h : Half) → IsShown m h → next new h ≡ next old h
  pub origin : (h : Half) → IsShown m h → origin_of new h ≡ origin_of old h
  pub face : (h : Half) → IsShown m h → face new h ≡ face old h
