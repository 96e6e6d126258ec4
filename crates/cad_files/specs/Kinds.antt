-- The rows of a plan, kind by kind, as they are put into a map.
use Rattle.std.specs.Prelude.{ℕ, Bool, ◌||◌, List, [], map, take, Option, option_map}
use Rattle.cad_rows.specs.declared.names.Name.{Name}
use Rattle.cad_rows.specs.declared.names.Name.TheVariants as name
use Rattle.cad_map.specs.Map.{Map, empty_map, has_parcel, is_retired}
use Rattle.cad_map.specs.Refusals.{is_there}
use Rattle.cad_files.specs.Fields.{repeated}
use Rattle.cad_files.specs.Rows.{Rows}
use Rattle.cad_files.specs.declared.kinds.Kind.{Kind}
use Rattle.cad_files.specs.declared.kinds.Kind.TheVariants.{Sources, Points, Parcels, Strings, Retired}

-- the numbers of the rows of a kind, in their order
abbrev pub numbers_of : Rows → Kind → List ℕ
numbers_of rows Sources = map (λ r. r.number) rows.sources
numbers_of rows Points = map (λ r. r.number) rows.points
numbers_of rows Parcels = map (λ r. r.number) rows.parcels
numbers_of rows Strings = map (λ s. s.row.number) rows.strings
numbers_of rows Retired = rows.retired

-- the numbers that none of them may have: a retired number is none of a parcel
abbrev pub taken_before : Rows → Kind → List ℕ
taken_before rows Retired = map (λ r. r.number) rows.parcels
taken_before rows _ = []

-- the name of the row of a kind with a number
abbrev pub name_of : Kind → ℕ → Name
name_of Sources n = name.Source n
name_of Points n = name.Point n
name_of Parcels n = name.Parcel n
name_of Strings n = name.String n
name_of Retired n = name.Parcel n

-- the first row of a kind whose number is taken before it
unfoldable pub taken_of : Rows → Kind → Option Name
taken_of rows kind =
    option_map (λ n. name_of kind n) (repeated (taken_before rows kind) (numbers_of rows kind))

-- the map has a row with this name, or its number is retired
abbrev pub is_taken : Map → Name → Bool
is_taken m (name.Parcel n) = has_parcel m n || is_retired m n
is_taken m (name.Point n) = is_there m (name.Point n)
is_taken m (name.String n) = is_there m (name.String n)
is_taken m (name.Source n) = is_there m (name.Source n)

-- the map with the rows of all kinds before this one, and so many of this one
abbrev pub filled : Rows → Kind → ℕ → Map
filled rows Sources n = record empty_map { sources = take n rows.sources }
filled rows Points n = record empty_map { sources = rows.sources; points = take n rows.points }
filled rows Parcels n = record empty_map {
  sources = rows.sources;
  points = rows.points;
  parcels = take n rows.parcels;
}
filled rows Strings n = record empty_map {
  sources = rows.sources;
  points = rows.points;
  parcels = rows.parcels;
  strings = map (λ s. s.row) (take n rows.strings);
}
filled rows Retired n = record empty_map {
  sources = rows.sources;
  points = rows.points;
  parcels = rows.parcels;
  strings = map (λ s. s.row) rows.strings;
  retired = take n rows.retired;
}
