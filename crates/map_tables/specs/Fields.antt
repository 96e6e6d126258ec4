-- The columns of a plan's rows behind their place.
use Rattle.std.specs.Prelude.{ℕ, ◌∷◌, [], pos}
use Rattle.sqlite_value.specs.declared.value.Value.TheVariants.{Int, Text}
use Rattle.sqlite_value.specs.Order.{Row}
use Rattle.cad_rows.specs.declared.names.Face.{Face}
use Rattle.cad_rows.specs.declared.names.Face.TheVariants.{Outside, Parcel}
use Rattle.cad_rows.specs.declared.rows.PointRow.{PointRow}
use Rattle.cad_rows.specs.declared.rows.SourceRow.{SourceRow}
use Rattle.cad_rows.specs.declared.rows.ParcelRow.{ParcelRow}
use Rattle.cad_files.specs.Texts.{list_field}
use Rattle.cad_files.specs.declared.rows.PlanString.{PlanString}

-- the number that stands for a face: 0 for the outside
abbrev pub face_value : Face → ℕ
face_value Outside = 0
face_value (Parcel n) = n

abbrev pub source_fields : SourceRow → Row
source_fields r = Int (pos r.number) ∷ Text r.text ∷ []

abbrev pub point_fields : PointRow → Row
point_fields r = Int (pos r.number) ∷ Int r.position.x ∷ Int r.position.y ∷ Text (list_field r.sources) ∷ []

abbrev pub parcel_fields : ParcelRow → Row
parcel_fields r = Int (pos r.number) ∷ Text r.label ∷ Text (list_field r.sources) ∷ []

abbrev pub string_fields : PlanString → Row
string_fields s =
    Int (pos s.row.number) ∷ Int (pos s.row.from) ∷ Int (pos s.row.to) ∷ Int (pos (face_value s.left))
    ∷ Int (pos (face_value s.right)) ∷ Text (list_field s.row.sources) ∷ []

abbrev pub retired_fields : ℕ → Row
retired_fields n = Int (pos n) ∷ []
