-- A list with its room.
use Rattle.std.specs.Prelude.{ℕ, List}

-- the items of a list, and how many fit into it without memory
pub record Kept (X : Type 0) : Type 0 where
  pub items : List X
  pub capacity : ℕ
