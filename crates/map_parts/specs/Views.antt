-- What a map on half-edges answers of sides and strings, by the stars of its points.
use Rattle.std.specs.Prelude.{ℕ, List, [], map, Option, option_map, unwrap_or}
use Rattle.cad_rows.specs.declared.names.Face.{Face}
use Rattle.cad_rows.specs.declared.rows.StringRow.{StringRow}
use Rattle.cad_rings.specs.Cycle.{Side}
use Rattle.cad_map.specs.Map.{string_of}
use Rattle.half_table.specs.declared.half.Half.{Half}
use Rattle.half_table.specs.Half.{forward_of, backward_of}
use Rattle.half_table.specs.Rows.{face}
use Rattle.cad_laws.specs.Local.{beyond}
use Rattle.key_lists.specs.Held.{items_at}
use Rattle.map_parts.specs.Stars.{half_by_ends}
use Rattle.map_parts.specs.Parts.{Parts, rows_of}

-- the half along a side
abbrev pub view_half : Parts → Side → Option Half
view_half d s = half_by_ends d.stars s

-- its face
abbrev pub view_face : Parts → Side → Option Face
view_face d s = option_map (face d.table.rows) (view_half d s)

-- the point to which its next leads
abbrev pub view_next : Parts → Side → Option ℕ
view_next d s = option_map (beyond d.table.rows) (view_half d s)

-- the row of the string with a number; of one that isn't there, a row of nothing
abbrev pub string_row : Parts → ℕ → StringRow
string_row d n =
    unwrap_or (string_of (rows_of d) n) (record { number = n; from = 0; to = 0; sources = [] })

-- the strings of a point, in the order of its star
abbrev pub view_strings : Parts → ℕ → List StringRow
view_strings d p = map (λ x. string_row d x.half.string) (items_at d.stars p)

-- the faces of a string's two halves
abbrev pub view_faces : Parts → ℕ → Option (Face × Face)
view_faces d n =
    option_map (λ s. (face d.table.rows (forward_of s.number), face d.table.rows (backward_of s.number)))
    (string_of (rows_of d) n)
