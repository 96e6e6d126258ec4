-- The strings and points that go out of the grid of a map by an edit, and those that come in.
use Rattle.std.specs.Prelude.{◌==◌, List, [], ◌∷◌, ◌++◌, map, filter, option_map, unwrap_or}
use Rattle.cad_rows.specs.declared.edits.Edit.{Edit}
use Rattle.cad_rows.specs.declared.edits.Edit.TheVariants.{AddPoint, DropPoint, Split, Join, Divide, Merge, Move, Enclose}
use Rattle.cad_rows.specs.declared.rows.PointRow.{PointRow}
use Rattle.cad_rows.specs.declared.rows.StringRow.{StringRow}
use Rattle.cad_map.specs.Map.{Map, string_of, strings_at}
use Rattle.cad_map.specs.Chain.{start_of, strings_along}
use Rattle.cad_map.specs.Changes.{by_number, string_joining}
use Rattle.cad_map.specs.Effects.{after}
use Rattle.cad_laws.specs.Counts.{shared_strings}
use Rattle.cell_grid.specs.Together.{Listed}
use Rattle.edit_records.specs.Gridded.{string_entry, point_entry}

-- the strings that an edit takes, and those of a point that it moves
abbrev pub strings_gone : Map → Edit → List StringRow
strings_gone m (Split s p x y first second) = filter (λ r. r.number == s) m.strings
strings_gone m (Join p new) = strings_at m p
strings_gone m (Merge kept ended) = shared_strings m kept ended
strings_gone m (Move p x y) = strings_at m p
strings_gone m _ = []

-- the strings that an edit brings, and those of a point that it moves
abbrev pub strings_come : Map → Edit → List StringRow
strings_come m (Split s p x y first second) =
    unwrap_or (option_map (λ r. record { number = first; from = r.from; to = p; sources = r.sources }
    ∷ record { number = second; from = p; to = r.to; sources = r.sources } ∷ []) (string_of m s)) []
strings_come m (Join p new) = string_joining p new (by_number (strings_at m p))
strings_come m (Divide face chain strings parcel label source) =
    strings_along (source ∷ []) strings chain
strings_come m (Enclose face points strings parcel label source) =
    strings_along (source ∷ []) strings (points ++ start_of points ∷ [])
strings_come m (Move p x y) = strings_at m p
strings_come m _ = []

-- the point that an edit takes or moves
abbrev pub points_gone : Map → Edit → List PointRow
points_gone m (DropPoint p) = filter (λ r. r.number == p) m.points
points_gone m (Join p new) = filter (λ r. r.number == p) m.points
points_gone m (Move p x y) = filter (λ r. r.number == p) m.points
points_gone m _ = []

-- the point that an edit brings or moves
abbrev pub points_come : Map → Edit → List PointRow
points_come m (AddPoint p x y) =
    record { number = p; position = record { x = x; y = y }; sources = [] } ∷ []
points_come m (Split s p x y first second) =
    record { number = p; position = record { x = x; y = y }; sources = [] } ∷ []
points_come m (Move p x y) =
    map (λ (r : PointRow). record r { position = record { x = x; y = y } })
    (filter (λ r. r.number == p) m.points)
points_come m _ = []

-- what goes, at the positions before
abbrev pub gone_by : Map → Edit → Listed
gone_by m e = record {
  strings = map (string_entry m) (strings_gone m e);
  points = map point_entry (points_gone m e);
}

-- what comes, at the positions after
abbrev pub come_by : Map → Edit → Listed
come_by m e = record {
  strings = map (string_entry (after m e)) (strings_come m e);
  points = map point_entry (points_come m e);
}
