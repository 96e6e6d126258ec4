-- Strings tied together to a ring.
use Rattle.std.specs.Prelude.{◌≡◌, List}
use Rattle.half_table.specs.declared.half.Half.{Half}
use Rattle.half_table.specs.Half.{twin}
use Rattle.half_paths.specs.Path.{last_of}
use Rattle.half_paths.specs.Strung.{IsStrung}

-- each half leads on to the next one and the last to the first, and so on the way back
pub record IsRound (next : Half → Half) (first : Half) (rest : List Half) : Type 0 where
  pub strung : IsStrung next first rest
  pub closes : next (last_of first rest) ≡ first
  pub returns : next (twin first) ≡ twin (last_of first rest)
