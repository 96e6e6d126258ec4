-- What a table of rows in order of entry holds.
use Rattle.std.specs.Prelude.{◌≡◌, ◌≢◌, ℕ, ◌+◌, pos, List, [], ◌∷◌}
use Rattle.sqlite_value.specs.declared.value.Value.TheVariants.{Null, Int}
use Rattle.sqlite_value.specs.Order.{Row}
use Rattle.sqlite_trees.specs.Tree.{Trees}
use Rattle.sqlite_trees.specs.View.{View, OnlyWrites}

-- the fields under a place. SQLite keeps a key's own column as NULL
abbrev pub placed : ℕ → Row → Row
placed n fields = Int (pos n) ∷ Null ∷ fields

-- rows in order, the first of them under this place
abbrev pub placed_from : ℕ → List Row → List Row
placed_from n [] = []
placed_from n (f ∷ fs) = placed n f ∷ placed_from (n + 1) fs

-- the table has these rows, and each other tree what it had
pub record HasTable (old : Trees) (tree : ℕ) (rows : List Row) (new : Trees) : Type 0 where
  pub table : new tree ≡ placed_from 1 rows
  pub others : (t : ℕ) → t ≢ tree → new t ≡ old t

-- the transaction that is open has put rows into the table, which has these now, and nothing else is changed
pub record PutsRows (old : View) (tree : ℕ) (rows : List Row) (new : View) : Type 0 where
  pub has : HasTable old.trees tree rows new.trees
  pub is : OnlyWrites old new

-- nothing but cursors has moved
abbrev pub OnlyReads : View → View → Type 0
OnlyReads old new = new ≡ record old { cursors = new.cursors }
