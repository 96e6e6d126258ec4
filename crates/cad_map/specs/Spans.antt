-- A string by its number and its ends.
use Rattle.std.specs.Prelude.{ℕ, ◌==◌, if◌then◌else◌}
use Rattle.cad_rows.specs.declared.rows.StringRow.{StringRow}
use Rattle.cad_map.specs.declared.span.Span.{Span}

-- a string's number and its ends
abbrev pub span_of : StringRow → Span
span_of s = record { string = s.number; from = s.from; to = s.to }

-- the end that isn't the point
abbrev pub far_of : Span → ℕ → ℕ
far_of s p = if s.from == p then s.to else s.from
