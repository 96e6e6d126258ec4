-- What an edit takes out of a grid and puts into it, listed beside either of its maps.
use Rattle.std.specs.Prelude.{◌≡◌, ℕ, ◌==◌, ◌⊎◌, IsPermutation, if◌then◌else◌}
use Rattle.geo_exact.specs.Position.{Position}
use Rattle.cad_rows.specs.declared.edits.Edit.{Edit}
use Rattle.cad_rows.specs.declared.rows.StringRow.{StringRow}
use Rattle.cad_rings.specs.Cycle.{Side, opposite}
use Rattle.cad_map.specs.declared.span.Span.{Span}
use Rattle.cad_map.specs.Map.{Map, position_of, side_of}
use Rattle.cad_map.specs.Effects.{after}
use Rattle.cad_map.specs.Spans.{span_of}
use Rattle.cad_laws.specs.Tried.{IsTried}
use Rattle.cell_grid.specs.declared.entry.Entry.{Entry}
use Rattle.cell_grid.specs.Together.{Listed}
use Rattle.cell_grid.specs.Grid.{entry_of}

-- the position of a point, where p lies at this one
abbrev pub position_by : Map → ℕ → Position → ℕ → Position
position_by m p at q = if q == p then at else position_of m q

-- a string, where p lies at this position
abbrev pub span_entry : Map → ℕ → Position → Span → Entry
span_entry m p at s = entry_of s.string (position_by m p at s.from) (position_by m p at s.to)

-- the same of a string's row
abbrev pub span_at : Map → ℕ → Position → StringRow → Entry
span_at m p at s = span_entry m p at (span_of s)

-- the string leads from one of the two points to the other
abbrev pub LeadsBetween : StringRow → Side → Type 0
LeadsBetween s t = (side_of s ≡ t) ⊎ (opposite (side_of s) ≡ t)

-- the same entries, in some order
pub record AreEntries (of l : Listed) : Type 0 where
  pub strings : IsPermutation of.strings l.strings
  pub points : IsPermutation of.points l.points

-- the map is the one before an edit that is tried, or the one after it
pub record IsBeside (m b : Map) (e : Edit) : Type 0 where
  pub tried : IsTried b e
  pub is : (m ≡ b) ⊎ (m ≡ after b e)
