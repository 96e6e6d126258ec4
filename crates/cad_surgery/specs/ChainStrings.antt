-- Strings that went from the rows, with the halves along them.
use Rattle.std.specs.Prelude.{List, [], ◌∷◌}
use Rattle.half_table.specs.declared.half.Half.{Half}
use Rattle.edit_records.specs.declared.record.ChainString.{ChainString}
use Rattle.map_parts.specs.declared.edits.placed_strings.PlacedString.{PlacedString}

-- each with its half, its place and its sources
abbrev pub with_halves : List Half → List PlacedString → List ChainString
with_halves (h ∷ path) (g ∷ gone) =
    record { half = h; place = g.place; sources = g.row.sources } ∷ with_halves path gone
with_halves path gone = []
