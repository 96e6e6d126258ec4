-- A walk along a cycle.
use Rattle.std.specs.Prelude.{List, [], ◌∷◌, length, Option, Some, None}
use Rattle.half_table.specs.declared.half.Half.{Half}
use Rattle.half_table.specs.Cycle.{IsRun, orbit}
use Rattle.half_table.specs.Rows.{HalfRows, next, halves}

-- the halves still to come
abbrev pub halves_ahead : HalfRows → Half → Option Half → List Half
halves_ahead rows start None = []
halves_ahead rows start (Some at) = at ∷ orbit (next rows) (length (halves rows)) start (next rows at)

-- the halves still to come lead to the start
abbrev pub IsWalking : HalfRows → Half → Option Half → Type 0
IsWalking rows start None = Unit {0}
IsWalking rows start (Some at) = IsRun (next rows) start (next rows at) (orbit (next rows) (length (halves rows)) start (next rows at))
