-- The rows of a plan, in the order of its records.
use Rattle.std.specs.Prelude.{◌≡◌, ◌≤◌, ◌<◌, ℕ, ◌+◌, ◌*◌, Bool, nat_lt, List, [], ◌∷◌, ◌++◌, length, All, None, Result, OnOk, OnErr}
use Rattle.geo_exact.specs.Position.{OnTheMap}
use Rattle.cad_rows.specs.Limits.{IsNumber, IsLabel, row_limit, string_limit, source_limit}
use Rattle.cad_rows.specs.declared.names.Face.{Face}
use Rattle.cad_rows.specs.declared.names.Face.TheVariants as face
use Rattle.cad_rows.specs.declared.rows.PointRow.{PointRow}
use Rattle.cad_rows.specs.declared.rows.ParcelRow.{ParcelRow}
use Rattle.cad_rows.specs.declared.rows.SourceRow.{SourceRow}
use Rattle.cad_files.specs.Fields.{repeated}
use Rattle.cad_files.specs.declared.rows.PlanString.{PlanString}
use Rattle.cad_files.specs.declared.rows.PlanRow.{PlanRow}
use Rattle.cad_files.specs.declared.rows.PlanRow.TheVariants as row

pub record Rows : Type 0 where
  pub sources : List SourceRow
  pub points : List PointRow
  pub parcels : List ParcelRow
  pub strings : List PlanString
  pub retired : List ℕ

abbrev pub no_rows : Rows
no_rows = record { sources = []; points = []; parcels = []; strings = []; retired = [] }

-- how many rows there are
abbrev pub row_count : Rows → ℕ
row_count rows =
    length rows.sources + length rows.points + length rows.parcels + length rows.strings + length rows.retired

-- the most rows of all kinds
abbrev pub plan_limit : ℕ
plan_limit = row_limit * 4 + string_limit

-- the rows of its kind are fewer than there may be
abbrev pub has_room : Rows → PlanRow → Bool
has_room rows (row.Source s) = nat_lt (length rows.sources) row_limit
has_room rows (row.Point p) = nat_lt (length rows.points) row_limit
has_room rows (row.Parcel p) = nat_lt (length rows.parcels) row_limit
has_room rows (row.String s) = nat_lt (length rows.strings) string_limit
has_room rows (row.Retired n) = nat_lt (length rows.retired) row_limit

-- the row last among those of its kind
abbrev pub with_row : Rows → PlanRow → Rows
with_row rows (row.Source s) = record rows { sources = rows.sources ++ s ∷ [] }
with_row rows (row.Point p) = record rows { points = rows.points ++ p ∷ [] }
with_row rows (row.Parcel p) = record rows { parcels = rows.parcels ++ p ∷ [] }
with_row rows (row.String s) = record rows { strings = rows.strings ++ s ∷ [] }
with_row rows (row.Retired n) = record rows { retired = rows.retired ++ n ∷ [] }

-- the sources that a row names
abbrev pub sources_of : PlanRow → List ℕ
sources_of (row.Point p) = p.sources
sources_of (row.Parcel p) = p.sources
sources_of (row.String s) = s.row.sources
sources_of _ = []

-- one row more than before, where there was room for it
pub record HasOneMore (old new : Rows) : Type 0 where
  pub count : row_count new ≡ row_count old + 1
  pub room : row_count old < plan_limit

-- a row was put to these, or nothing has changed
pub record IsPut {E : Type 0} (result : Result Unit E) (old new put : Rows) : Type 0 where
  -- the rows with it
  pub ok : OnOk result (new ≡ put)
  -- where there is no memory they stay as they were
  pub err : OnErr result (new ≡ old)
  -- it is one row more
  pub more : OnOk result (HasOneMore old new)

-- the sources of an item: not too many, and none twice
pub record IsSourceList (sources : List ℕ) : Type 0 where
  pub few : length sources ≤ source_limit
  pub once : repeated [] sources ≡ None

-- the outside, or a parcel whose number is in range
abbrev pub IsFace : Face → Type 0
IsFace f = (n : ℕ) → f ≡ face.Parcel n → IsNumber n

pub record IsSourceRow (row : SourceRow) : Type 0 where
  pub number : IsNumber row.number
  pub text : IsLabel row.text

pub record IsPointRow (row : PointRow) : Type 0 where
  pub number : IsNumber row.number
  pub position : OnTheMap row.position
  pub sources : IsSourceList row.sources

pub record IsParcelRow (row : ParcelRow) : Type 0 where
  pub number : IsNumber row.number
  pub label : IsLabel row.label
  pub sources : IsSourceList row.sources

pub record IsPlanString (string : PlanString) : Type 0 where
  pub number : IsNumber string.row.number
  pub from : IsNumber string.row.from
  pub to : IsNumber string.row.to
  pub left : IsFace string.left
  pub right : IsFace string.right
  pub sources : IsSourceList string.row.sources

-- rows as the records of a plan may have them: each in range, and not too many of a kind
pub record AreInRange (rows : Rows) : Type 0 where
  pub sources : All IsSourceRow rows.sources
  pub points : All IsPointRow rows.points
  pub parcels : All IsParcelRow rows.parcels
  pub strings : All IsPlanString rows.strings
  pub retired : All IsNumber rows.retired
  pub few_sources : length rows.sources ≤ row_limit
  pub few_points : length rows.points ≤ row_limit
  pub few_parcels : length rows.parcels ≤ row_limit
  pub few_strings : length rows.strings ≤ string_limit
  pub few_retired : length rows.retired ≤ row_limit
