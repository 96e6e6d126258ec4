-- How many edits can be undone.
use Rattle.std.specs.Prelude.{ℕ, ◌≤◌}

-- the most edits that can be undone
abbrev pub depth_limit : ℕ
depth_limit = 1000

pub record IsDepth (n : ℕ) : Type 0 where
  pub some : 1 ≤ n
  pub within : n ≤ depth_limit
