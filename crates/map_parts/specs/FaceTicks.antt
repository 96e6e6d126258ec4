-- How many ticks it takes to bring strings to a table, with the rings that they change, and to take them out.
use Rattle.std.specs.Prelude.{ℕ, ◌+◌, ◌*◌, List, length}
use Rattle.half_table.specs.declared.half.Half.{Half}
use Rattle.half_table.specs.Half.{twin}
use Rattle.half_table.specs.Rows.{HalfRows, cycle}
use Rattle.map_parts.specs.Relabelled.{cycles_length}

-- a chain that is brought: three for each string, one more, and one for each half of a ring that gets the inner face
abbrev pub ticks_to_bring_across : HalfRows → Half → List Half → List Half → ℕ
ticks_to_bring_across new first rest moved = 2 + 2 * length rest + (length rest + 2) + (length (cycle new first) + cycles_length new moved)

-- a chain that is taken: as many, by the rings that had the inner face
abbrev pub ticks_to_take_across : HalfRows → Half → List Half → List Half → ℕ
ticks_to_take_across old first rest moved = cycles_length old moved + (length (cycle old first) + (length rest + 2) + (2 + 2 * length rest))

-- an island that is brought: one for each string, and one for each half of a ring that gets a face
abbrev pub ticks_to_bring_in : HalfRows → Half → List Half → List Half → ℕ
ticks_to_bring_in new first rest moved = length rest + 1 + (length (cycle new first) + (length (cycle new (twin first)) + cycles_length new moved))

-- an island that is taken: one for each half of a ring that gets the outer face, and one for each string
abbrev pub ticks_to_take_out : HalfRows → Half → List Half → List Half → ℕ
ticks_to_take_out old first rest moved = cycles_length old moved + (length (cycle old (twin first)) + (length rest + 1))

-- a string in the place of two, or two in the place of one: one for each half of the rings on both sides, and five
abbrev pub ticks_to_pass : HalfRows → Half → Half → ℕ
ticks_to_pass new forth back = length (cycle new forth) + length (cycle new back) + 5
