use Rattle.std.proofs.Common.{◌≡◌, ◌++◌, take}
use Rattle.std.specs.Prelude.{flat_map}
use Rattle.cad_views.specs.Drawings.{escaped}
use Rattle.cad_views.proofs.pen.push_escaped.Given as goal

-- the bytes up to the place are appended
abbrev pub invariant-loop-place : goal.invariant-loop-place
invariant-loop-place l = l.text.items ≡ l.fn.text.items ++ flat_map escaped (take l.place l.bytes)
