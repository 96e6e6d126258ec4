-- Strings that one map has more than another, as a path of half-edges.
use Rattle.std.specs.Prelude.{◌≡◌, false, ◌||◌, List, map}
use Rattle.cad_rings.specs.Cycle.{Side}
use Rattle.cad_map.specs.Map.{Map, has_string}
use Rattle.half_table.specs.declared.half.Half.{Half}
use Rattle.half_table.specs.Rows.{HalfRows}
use Rattle.half_paths.specs.Path.{strings_of}
use Rattle.half_paths.specs.Loose.{is_of}
use Rattle.cad_laws.specs.Local.{IsShown, side_by}

-- these halves lead along these sides, one after another
abbrev pub AreAlong : HalfRows → List Half → List Side → Type 0
AreAlong rows halves sides = map (side_by rows) halves ≡ sides

-- the second map has the strings of the first, and those of these halves
pub record HasStringsMore (whole parted : Map) (path : List Half) : Type 0 where
  pub all : (h : Half) → has_string parted h.string ≡ (is_of (strings_of path) h || has_string whole h.string)
  pub new : (h : Half) → IsShown whole h → is_of (strings_of path) h ≡ false
