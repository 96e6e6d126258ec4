-- The records of a map's rows with their geometry.
use Rattle.std.specs.Prelude.{◌≡◌, List, [], ◌∷◌, ℕ, map, codes, decimal, ⊤}
use Rattle.std.specs.Fmt.{signed_decimal}
use Rattle.geo_exact.specs.Measure.{doubled_area}
use Rattle.cad_rows.specs.declared.rows.PointRow.{PointRow}
use Rattle.cad_rows.specs.declared.rows.ParcelRow.{ParcelRow}
use Rattle.cad_rows.specs.declared.rows.SourceRow.{SourceRow}
use Rattle.cad_rows.specs.declared.names.Face.TheVariants as face
use Rattle.cad_rings.specs.Cycle.{Ring}
use Rattle.cad_map.specs.Map.{Map, rings_of, sum_of_face}
use Rattle.cad_files.specs.Building.{plan_string_of}
use Rattle.cad_files.specs.Reports.{hundredths_of, area_field}
use Rattle.cad_files.specs.Texts.{Record, list_field, face_field}
use Rattle.cad_files.specs.declared.rows.PlanString.{PlanString}
use Rattle.cad_views.specs.Cut.{AreCutFrom}
use Rattle.cad_views.specs.WellKnown.{point_geometry, line_geometry, polygon_geometry}

abbrev pub point_header : Record
point_header = codes "number" ∷ codes "sources" ∷ codes "WKT" ∷ []

-- a point
abbrev pub point_row : PointRow → Record
point_row r = decimal r.number ∷ list_field r.sources ∷ point_geometry r.position ∷ []

abbrev pub source_header : Record
source_header = codes "number" ∷ codes "text" ∷ []

-- a source
abbrev pub source_row : SourceRow → Record
source_row r = decimal r.number ∷ r.text ∷ []

-- the number of a parcel that a merger ended
abbrev pub retired_row : ℕ → Record
retired_row n = decimal n ∷ []

abbrev pub string_header : Record
string_header =
    codes "number" ∷ codes "from" ∷ codes "to" ∷ codes "left" ∷ codes "right" ∷ codes "sources"
    ∷ codes "WKT" ∷ []

-- a string with its faces
abbrev pub string_row : Map → PlanString → Record
string_row m s =
    decimal s.row.number ∷ decimal s.row.from ∷ decimal s.row.to ∷ face_field s.left
    ∷ face_field s.right ∷ list_field s.row.sources ∷ line_geometry m s.row.from s.row.to ∷ []

abbrev pub parcel_header : Record
parcel_header =
    codes "number" ∷ codes "label" ∷ codes "area" ∷ codes "doubled" ∷ codes "sources"
    ∷ codes "WKT" ∷ []

-- a parcel, with the rings that its own are cut into
abbrev pub parcel_row : Map → ParcelRow → List Ring → Record
parcel_row m r pieces =
    let a2 = sum_of_face doubled_area m (face.Parcel r.number) in
    decimal r.number ∷ r.label ∷ area_field (hundredths_of a2) ∷ signed_decimal a2
    ∷ list_field r.sources ∷ polygon_geometry m pieces ∷ []

-- the record tells the parcel by rings that its own are cut into
pub record TellsParcel (m : Map) (r : ParcelRow) (told : Record) : Type 0 where
  pub pieces : List Ring
  pub cut : AreCutFrom (rings_of m (face.Parcel r.number)) pieces
  pub is : told ≡ parcel_row m r pieces

-- each of the first list with the one at its place in the second
abbrev pub AreTold : {X Y : Type 0} → (X → Y → Type 0) → List X → List Y → Type 0
AreTold R [] [] = ⊤
AreTold R (x ∷ xs) (y ∷ ys) = R x y × AreTold R xs ys
AreTold R _ _ = ⊥

-- ---- The tables: a header, and a record for each row, in order of entry

abbrev pub point_table : Map → List Record
point_table m = point_header ∷ map point_row m.points

abbrev pub source_table : Map → List Record
source_table m = source_header ∷ map source_row m.sources

abbrev pub retired_table : Map → List Record
retired_table m = (codes "number" ∷ []) ∷ map retired_row m.retired

abbrev pub string_table : Map → List Record
string_table m = string_header ∷ map (string_row m) (map (plan_string_of m) m.strings)

abbrev pub IsParcelTable : Map → List Record → Type 0
IsParcelTable m [] = ⊥
IsParcelTable m (header ∷ records) = (header ≡ parcel_header) × AreTold (TellsParcel m) m.parcels records
