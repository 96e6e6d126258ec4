-- The rows of a map by themselves.
use Rattle.std.specs.Prelude.{[], map}
use Rattle.numbered_rows.specs.Rows.{rows_in}
use Rattle.cad_map.specs.declared.map_rows.MapRows.{MapRows}
use Rattle.cad_map.specs.Map.{Map}

-- the map that has these rows, and no rings
abbrev pub map_in : MapRows → Map
map_in rows = record {
  sources = rows_in rows.sources;
  points = rows_in rows.points;
  parcels = rows_in rows.parcels;
  strings = rows_in rows.strings;
  retired = map (λ r. r.number) (rows_in rows.retired);
  boundaries = [];
}
