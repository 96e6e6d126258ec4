-- What the table of a journal holds, and what a crash leaves of it.
use Rattle.std.specs.Prelude.{◌≡◌, ◌≢◌, ℕ, false, List, [], ◌∷◌, map, IsTrue}
use Rattle.sqlite_value.specs.declared.value.Value.TheVariants.{Text}
use Rattle.sqlite_value.specs.Order.{Row}
use Rattle.sqlite_trees.specs.Tree.{Trees}
use Rattle.sqlite_trees.specs.View.{View}
use Rattle.sqlite_trees.specs.declared.store.Shape.TheVariants.{Table}
use Rattle.stored_rows.specs.Tables.{placed_from}

-- the bytes of a line
abbrev pub Line : Type 0
Line = List ℕ

abbrev pub journal_tree : ℕ
journal_tree = 0

-- a line's columns behind its place
abbrev pub line_fields : Line → Row
line_fields line = Text line ∷ []

-- the rows of lines, in order
abbrev pub rows_of : List Line → List Row
rows_of lines = placed_from 1 (map line_fields lines)

-- these trees have these lines, and else what the others have
pub record HasLines (others : Trees) (lines : List Line) (db : Trees) : Type 0 where
  pub journal : db journal_tree ≡ rows_of lines
  pub rest : (t : ℕ) → t ≢ journal_tree → db t ≡ others t

-- between two commits: nothing is written since the last one, and the journal has these lines
pub record IsAtRest (v : View) (lines : List Line) : Type 0 where
  pub is_open : IsTrue v.is_open
  pub sound : v.is_broken ≡ false
  pub shape : v.shape journal_tree ≡ Table
  pub settled : v.trees ≡ v.committed
  pub journal : v.committed journal_tree ≡ rows_of lines

-- after commits: the journal has these lines, and each other tree what it had
pub record IsKept (old new : View) (lines : List Line) : Type 0 where
  pub rest : IsAtRest new lines
  pub trees : HasLines old.committed lines new.committed
