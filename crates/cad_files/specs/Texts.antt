-- The text of a map's plan, and of answers: records of seven fields, as the default writer writes them.
use Rattle.std.specs.Prelude.{◌≡◌, ℕ, List, [], ◌∷◌, ◌++◌, map, codes, decimal, Some, false}
use Rattle.std.specs.List.{flat_map, join_with_byte}
use Rattle.std.specs.Fmt.{signed_decimal}
use Rattle.std.specs.Global.{Vec}
use Rattle.csv.specs.Writing.{row_text, default_writer, text_written, writer_setup, fields_written, has_written}
use Rattle.csv.specs.declared.writer.Writer.{Writer}
use Rattle.cad_rows.specs.declared.rows.PointRow.{PointRow}
use Rattle.cad_rows.specs.declared.rows.SourceRow.{SourceRow}
use Rattle.cad_rows.specs.declared.rows.ParcelRow.{ParcelRow}
use Rattle.cad_rows.specs.declared.names.Face.{Face}
use Rattle.cad_rows.specs.declared.names.Face.TheVariants.{Outside, Parcel}
use Rattle.cad_map.specs.Map.{Map}
use Rattle.cad_files.specs.Building.{plan_string_of}
use Rattle.cad_files.specs.declared.rows.PlanString.{PlanString}
use Rattle.cad_files.specs.declared.kinds.Kind.{Kind}
use Rattle.cad_files.specs.declared.kinds.Kind.TheVariants.{Sources, Points, Parcels, Strings, Retired}

abbrev pub Record : Type 0
Record = List (List ℕ)

-- a record as the default writer writes it
unfoldable pub record_text : Record → List ℕ
record_text fields = row_text default_writer fields

-- records, one after another
abbrev pub text_of : List Record → List ℕ
text_of records = flat_map record_text records

-- numbers with one space between them
unfoldable pub list_field : List ℕ → List ℕ
list_field ns = join_with_byte 32 (map decimal ns)

-- ---- The plan of a map

abbrev pub first_record : Record
first_record = codes "plan" ∷ codes "2" ∷ [] ∷ [] ∷ [] ∷ [] ∷ [] ∷ []

abbrev pub source_record : SourceRow → Record
source_record r = codes "source" ∷ decimal r.number ∷ r.text ∷ [] ∷ [] ∷ [] ∷ [] ∷ []

abbrev pub point_record : PointRow → Record
point_record r =
    codes "point" ∷ decimal r.number ∷ signed_decimal r.position.x ∷ signed_decimal r.position.y
    ∷ list_field r.sources ∷ [] ∷ [] ∷ []

abbrev pub parcel_record : ParcelRow → Record
parcel_record r =
    codes "parcel" ∷ decimal r.number ∷ r.label ∷ list_field r.sources ∷ [] ∷ [] ∷ [] ∷ []

-- the field of a face: 0 for the outside
abbrev pub face_field : Face → List ℕ
face_field Outside = codes "0"
face_field (Parcel n) = decimal n

-- a string with its faces
abbrev pub string_record : PlanString → Record
string_record s =
    codes "string" ∷ decimal s.row.number ∷ decimal s.row.from ∷ decimal s.row.to
    ∷ face_field s.left ∷ face_field s.right ∷ list_field s.row.sources ∷ []

abbrev pub retired_record : ℕ → Record
retired_record n = codes "retired" ∷ decimal n ∷ [] ∷ [] ∷ [] ∷ [] ∷ [] ∷ []

abbrev pub open_record : Record
open_record = codes "open" ∷ [] ∷ [] ∷ [] ∷ [] ∷ [] ∷ [] ∷ []

-- the records of a map's rows of one kind, in order of entry; those of strings have their present faces
abbrev pub records_of : Map → Kind → List Record
records_of m Sources = map source_record m.sources
records_of m Points = map point_record m.points
records_of m Parcels = map parcel_record m.parcels
records_of m Strings = map string_record (map (plan_string_of m) m.strings)
records_of m Retired = map retired_record m.retired

-- kind by kind
abbrev pub plan_records : Map → List Record
plan_records m =
    first_record
    ∷ (records_of m Sources ++ (records_of m Points ++ (records_of m Parcels
    ++ (records_of m Strings ++ (records_of m Retired ++ open_record ∷ [])))))

-- the writer has written this text, and stands between records
pub record HasWritten (text : List ℕ) (writer : Writer (Vec ℕ)) : Type 0 where
  pub setup : writer_setup writer ≡ default_writer
  pub between : fields_written writer ≡ 0
  pub clean : has_written writer ≡ false
  pub written : text_written (λ v. Some v.items) writer ≡ Some text

-- what was written before is kept, and this text stands after it
abbrev pub HasAppended : List ℕ → Writer (Vec ℕ) → Writer (Vec ℕ) → Type 0
HasAppended more old new = (text : List ℕ) → HasWritten text old → HasWritten (text ++ more) new
