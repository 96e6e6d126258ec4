-- What a map file holds.
use Rattle.std.specs.Prelude.{◌≡◌, ℕ, List, [], ◌∷◌, codes, decimal}
use Rattle.sqlite_value.specs.declared.value.Value.TheVariants.{Text}
use Rattle.sqlite_value.specs.Order.{Row}
use Rattle.sqlite_trees.specs.Tree.{Trees}
use Rattle.sqlite_trees.specs.View.{View, OnlyWrites}
use Rattle.sqlite_trees.specs.declared.store.Shape.TheVariants.{Table}
use Rattle.cad_map.specs.Map.{Map}
use Rattle.cad_history.specs.History.{History, beginning}
use Rattle.cad_files.specs.Rows.{Rows}
use Rattle.cad_files.specs.Building.{IsBuilt}
use Rattle.stored_rows.specs.Tables.{placed_from}
use Rattle.map_journal.specs.Journal.{Line, rows_of}
use Rattle.map_session.specs.Session.{Replays}
use Rattle.map_tables.specs.Tables.{AreEmpty, AreTables, HasRows}

-- a setting's columns behind its place
abbrev pub setting_fields : List ℕ → List ℕ → Row
setting_fields name value = Text name ∷ Text value ∷ []

-- the settings of a file in which so many edits can be undone
abbrev pub depth_rows : ℕ → List Row
depth_rows depth = setting_fields (codes "format") (codes "1") ∷ setting_fields (codes "depth") (decimal depth) ∷ []

-- the settings' table says so
abbrev pub HasDepth : Trees → ℕ → Type 0
HasDepth db depth = db 6 ≡ placed_from 1 (depth_rows depth)

-- the file holds a map by its tables, and these lines make this history of it
pub record HoldsMap (db : Trees) (lines : List Line) (h : History) : Type 0 where
  pub rows : Rows
  pub map : Map
  pub depth : ℕ
  pub tables : HasRows db rows
  pub built : IsBuilt rows map
  pub setting : HasDepth db depth
  pub journal : db 0 ≡ rows_of lines
  pub replays : Replays (beginning map depth) lines h

-- the seven trees of a map file are tables, and have no row
pub record IsFresh (v : View) : Type 0 where
  pub shapes : AreTables v.shape
  pub tables : AreEmpty v.trees
  pub settings_shape : v.shape 6 ≡ Table
  pub settings : v.trees 6 ≡ []
  pub journal : v.trees 0 ≡ []

-- the transaction that is open has put these rows and this depth into a fresh file
pub record PutsMap (old : View) (rows : Rows) (depth : ℕ) (new : View) : Type 0 where
  pub tables : HasRows new.trees rows
  pub setting : HasDepth new.trees depth
  pub journal : new.trees 0 ≡ []
  pub is : OnlyWrites old new
