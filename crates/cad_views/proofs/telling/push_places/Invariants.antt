use Rattle.std.proofs.Common.{◌≡◌, ◌++◌, map, take}
use Rattle.std.specs.Prelude.{codes}
use Rattle.std.specs.List.{join_with_byte}
use Rattle.cad_views.specs.WellKnown.{coordinates}
use Rattle.cad_views.proofs.telling.push_places.Given as goal

-- the coordinates of the places up to this one are appended
abbrev pub invariant-loop-index : goal.invariant-loop-index
invariant-loop-index l = l.text.items ≡ l.fn.text.items ++ join_with_byte 44 (map (λ a. codes " " ++ coordinates a) (take l.index l.places))
