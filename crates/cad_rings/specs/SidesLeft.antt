-- What an iterator over the sides of a ring has left to give.
use Rattle.std.specs.Prelude.{List, drop}
use Rattle.cad_rings.specs.Cycle.{Side, sides_of}
use Rattle.cad_rings.specs.declared.sides.Sides.{Sides}

-- the sides that were not given
abbrev pub sides_left : Sides → List Side
sides_left s = drop s.given (sides_of s.points.now)
