-- What follows what, after some halves got other successors.
use Rattle.std.specs.Prelude.{List, [], ◌∷◌, if◌then◌else◌}
use Rattle.half_table.specs.declared.half.Half.{Half}
use Rattle.half_table.specs.Half.{is_half}

-- the same, but that `from` is followed by `to`
abbrev pub written : Half → Half → (Half → Half) → Half → Half
written from to next g = if is_half g from then to else next g

-- the same, but that the first half of each pair is followed by the second; the pairs are written in order
abbrev pub redirect : List (Half × Half) → (Half → Half) → Half → Half
redirect [] next = next
redirect (entry ∷ entries) next = redirect entries (written entry.0 entry.1 next)
