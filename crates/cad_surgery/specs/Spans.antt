-- Strings along the halves of a star, by their numbers and their ends.
use Rattle.std.specs.Prelude.{ℕ, if◌then◌else◌}
use Rattle.cad_map.specs.declared.span.Span.{Span}
use Rattle.map_parts.specs.declared.stars.Spoke.{Spoke}

-- the string along a half that begins at a point
abbrev pub span_along : ℕ → Spoke → Span
span_along p x = record {
  string = x.half.string;
  from = if x.half.forward then p else x.far;
  to = if x.half.forward then x.far else p;
}
