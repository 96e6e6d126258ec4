-- What the tables of a map file hold.
use Rattle.std.specs.Prelude.{◌≡◌, ◌<◌, ℕ, List, [], ◌∷◌, map}
use Rattle.sqlite_trees.specs.View.{View, OnlyWrites}
use Rattle.sqlite_trees.specs.declared.store.Shape.{Shape}
use Rattle.sqlite_trees.specs.declared.store.Shape.TheVariants as shapes
use Rattle.sqlite_trees.specs.Tree.{Trees}
use Rattle.cad_files.specs.Rows.{Rows, with_row}
use Rattle.cad_files.specs.declared.rows.PlanRow.{PlanRow}
use Rattle.stored_rows.specs.Tables.{placed_from}
use Rattle.map_tables.specs.Fields.{source_fields, point_fields, parcel_fields, string_fields, retired_fields}

-- rows put in turn, each last among those of its kind
abbrev pub with_rows : Rows → List PlanRow → Rows
with_rows rows [] = rows
with_rows rows (r ∷ rs) = with_rows (with_row rows r) rs

-- the tables hold these rows of a plan
pub record HasRows (db : Trees) (rows : Rows) : Type 0 where
  pub sources : db 1 ≡ placed_from 1 (map source_fields rows.sources)
  pub points : db 2 ≡ placed_from 1 (map point_fields rows.points)
  pub parcels : db 3 ≡ placed_from 1 (map parcel_fields rows.parcels)
  pub strings : db 4 ≡ placed_from 1 (map string_fields rows.strings)
  pub retired : db 5 ≡ placed_from 1 (map retired_fields rows.retired)

-- the trees of these tables are tables
pub record AreTables (shape : ℕ → Shape) : Type 0 where
  pub sources : shape 1 ≡ shapes.Table
  pub points : shape 2 ≡ shapes.Table
  pub parcels : shape 3 ≡ shapes.Table
  pub strings : shape 4 ≡ shapes.Table
  pub retired : shape 5 ≡ shapes.Table

-- and have no row
pub record AreEmpty (db : Trees) : Type 0 where
  pub sources : db 1 ≡ []
  pub points : db 2 ≡ []
  pub parcels : db 3 ≡ []
  pub strings : db 4 ≡ []
  pub retired : db 5 ≡ []

-- the transaction that is open has put these rows into the tables, and nothing else is changed
pub record PutsPlan (old : View) (rows : Rows) (new : View) : Type 0 where
  pub has : HasRows new.trees rows
  pub journal : new.trees 0 ≡ old.trees 0
  pub others : (t : ℕ) → 5 < t → new.trees t ≡ old.trees t
  pub is : OnlyWrites old new
