-- What is told of a touch, but for what is named.
use Rattle.std.specs.Prelude.{◌≡◌, Option}
use Rattle.cad_map.specs.Touched.{Touched, Moved, Joined}

-- what was moved, and what was joined
pub record Tells (t : Touched) (moved : Option Moved) (joined : Option Joined) : Type 0 where
  pub moves : t.moved ≡ moved
  pub joins : t.joined ≡ joined
