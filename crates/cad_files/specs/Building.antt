-- The map of a plan's rows, and the first fault in them.
use Rattle.std.specs.Prelude.{◌≡◌, ℕ, Bool, ◌||◌, ◌&&◌, not, ◌==◌, List, [], ◌∷◌, ◌++◌, length, map, find, Option, Some, None, option_map, if◌then◌else◌}
use Rattle.std.specs.List.{list_any, flat_map}
use Rattle.std.specs.Str.{bytes_eq as is_same_list}
use Rattle.cad_rows.specs.declared.names.Face.{Face}
use Rattle.cad_rows.specs.declared.names.Face.TheVariants.{Outside, Parcel}
use Rattle.cad_rows.specs.declared.rows.PointRow.{PointRow}
use Rattle.cad_rows.specs.declared.rows.ParcelRow.{ParcelRow}
use Rattle.cad_rows.specs.declared.rows.StringRow.{StringRow}
use Rattle.cad_rows.specs.declared.names.Name.{Name}
use Rattle.cad_rows.specs.declared.names.Name.TheVariants as name
use Rattle.cad_rows.specs.declared.refusals.Rule.{Rule}
use Rattle.cad_rings.specs.Cycle.{Side, is_side, has_side}
use Rattle.cad_map.specs.Boundaries.{is_face}
use Rattle.cad_map.specs.Map.{Map, degree, left_face, right_face}
use Rattle.cad_map.specs.Refusals.{is_there}
use Rattle.cad_map.specs.Valid.{IsValid, FirstBroken}
use Rattle.std.specs.Prelude.{unwrap_or}
use Rattle.cad_files.specs.Follower.{followers, LabelledSide, labelled_sides, HasRingsOf}
use Rattle.cad_files.specs.Rows.{Rows}
use Rattle.cad_files.specs.Kinds.{taken_of}
use Rattle.cad_files.specs.declared.kinds.Kind.TheVariants.{Sources, Points, Parcels, Strings, Retired}
use Rattle.cad_files.specs.declared.rows.PlanString.{PlanString}
use Rattle.cad_files.specs.declared.faults.PlanFault.{PlanFault}
use Rattle.cad_files.specs.declared.faults.PlanFault.TheVariants as faults

-- the map with these rows, in their order, and without rings
abbrev pub map_of : Rows → Map
map_of rows = record {
  sources = rows.sources;
  points = rows.points;
  parcels = rows.parcels;
  strings = map (λ s. s.row) rows.strings;
  retired = rows.retired;
  boundaries = [];
}

-- the map's rows are the plan's, and its rings those of the plan's strings
pub record IsMapOf (rows : Rows) (m : Map) : Type 0 where
  pub sources : m.sources ≡ rows.sources
  pub points : m.points ≡ rows.points
  pub parcels : m.parcels ≡ rows.parcels
  pub retired : m.retired ≡ rows.retired
  pub rings : HasRingsOf m rows.strings

-- a string with its present faces
abbrev pub plan_string_of : Map → StringRow → PlanString
plan_string_of m s = record {
  row = s;
  left = unwrap_or (left_face m s) Outside;
  right = unwrap_or (right_face m s) Outside;
}

-- the rows of a map, in their order
abbrev pub rows_of : Map → Rows
rows_of m = record {
  sources = m.sources;
  points = m.points;
  parcels = m.parcels;
  strings = map (plan_string_of m) m.strings;
  retired = m.retired;
}

-- the first that is there
abbrev pub first_some : {X : Type 0} → List (Option X) → Option X
first_some [] = None
first_some (None ∷ rest) = first_some rest
first_some (Some x ∷ rest) = Some x

-- ---- A number that stands twice

-- by kinds: sources, points, parcels, strings, retired numbers
abbrev pub twice_numbered : Rows → Option Name
twice_numbered rows =
    first_some (taken_of rows Sources ∷ taken_of rows Points ∷ taken_of rows Parcels
    ∷ taken_of rows Strings ∷ taken_of rows Retired ∷ [])

-- ---- A row that is named and isn't there

abbrev pub sources_named : List ℕ → List Name
sources_named sources = map (λ n. name.Source n) sources

-- what the points name, in the order of rows and fields
unfoldable pub points_name : List PointRow → List Name
points_name rows = flat_map (λ (r : PointRow). sources_named r.sources) rows

-- what the parcels name
unfoldable pub parcels_name : List ParcelRow → List Name
parcels_name rows = flat_map (λ (r : ParcelRow). sources_named r.sources) rows

-- the parcel that a face names
abbrev pub names_of_face : Face → List Name
names_of_face Outside = []
names_of_face (Parcel n) = name.Parcel n ∷ []

-- what a string names: its points, its faces, its sources
abbrev pub string_names : PlanString → List Name
string_names s =
    name.Point s.row.from ∷ name.Point s.row.to
    ∷ (names_of_face s.left ++ (names_of_face s.right ++ sources_named s.row.sources))

-- what the strings name
unfoldable pub strings_name : List PlanString → List Name
strings_name rows = flat_map string_names rows

-- the first of these names of which the map has no row
abbrev pub missing_name : Map → List Name → Option Name
missing_name m names = find (λ n. not (is_there m n)) names

-- by kinds: points, parcels, strings
abbrev pub unknown_name : Rows → Option Name
unknown_name rows =
    first_some (missing_name (map_of rows) (points_name rows.points)
    ∷ missing_name (map_of rows) (parcels_name rows.parcels)
    ∷ missing_name (map_of rows) (strings_name rows.strings) ∷ [])

-- ---- A string that ends nowhere, or has one face on both sides

-- its points are one, or its faces are, or one of its ends is on no other string
abbrev pub is_dangling : Map → PlanString → Bool
is_dangling m s =
    (s.row.from == s.row.to) || is_face s.left s.right || (degree m s.row.from == 1)
    || (degree m s.row.to == 1)

-- the number of the first such string
unfoldable pub dangling : Map → List PlanString → Option ℕ
dangling m strings = option_map (λ s. s.row.number) (find (is_dangling m) strings)

-- ---- A side that has no follower of its own

-- the side stands among earlier ones, or hasn't just one follower, or that of an earlier side to the same point
abbrev pub is_bad_corner : Map → List Side → Side → Bool
is_bad_corner m earlier s =
    has_side s earlier || not (length (followers m s) == 1)
    || list_any (λ t. (t.1 == s.1) && is_same_list (followers m t) (followers m s)) earlier

-- the end of the first such side
abbrev pub first_bad_corner : Map → List Side → List Side → Option ℕ
first_bad_corner m earlier [] = None
first_bad_corner m earlier (s ∷ sides) =
    if is_bad_corner m earlier s then Some s.1 else first_bad_corner m (s ∷ earlier) sides

unfoldable pub bad_corner : Map → List PlanString → Option ℕ
bad_corner m strings = first_bad_corner m [] (map (λ s. s.side) (labelled_sides strings))

-- ---- A side whose follower has another face

-- one of these is the side after it, and has its face
abbrev pub keeps_face : Map → List LabelledSide → LabelledSide → Bool
keeps_face m sides s =
    list_any (λ t. list_any (λ w. is_side (s.side.1, w) t.side) (followers m s.side)
    && is_face s.face t.face) sides

-- the string of the first side that isn't so
unfoldable pub other_label : Map → List PlanString → Option ℕ
other_label m strings =
    option_map (λ s. s.string)
    (find (λ s. not (keeps_face m (labelled_sides strings) s)) (labelled_sides strings))

-- ---- Building

-- the first fault by which there is no such map
abbrev pub first_fault : Rows → Option PlanFault
first_fault rows = first_some
    (option_map (λ n. faults.Taken n) (twice_numbered rows)
    ∷ option_map (λ n. faults.Unknown n) (unknown_name rows)
    ∷ option_map (λ n. faults.Dangling n) (dangling (map_of rows) rows.strings)
    ∷ option_map (λ n. faults.Corner n) (bad_corner (map_of rows) rows.strings)
    ∷ option_map (λ n. faults.Labels n) (other_label (map_of rows) rows.strings)
    ∷ [])

-- the map is that of the rows, and valid
pub record IsBuilt (rows : Rows) (m : Map) : Type 0 where
  pub faultless : first_fault rows ≡ None
  pub is : IsMapOf rows m
  pub valid : IsValid m

-- the fault is the first in the rows, or their map breaks this rule first
pub data IsBuildFault (rows : Rows) : PlanFault → Type 0 where
  at_once : {fault : PlanFault} → first_fault rows ≡ Some fault → IsBuildFault rows fault
  breaking : {m : Map} {rule : Rule} → first_fault rows ≡ None → IsMapOf rows m → FirstBroken m rule
      → IsBuildFault rows (faults.Breaks rule)
