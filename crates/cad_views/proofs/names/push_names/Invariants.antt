use Rattle.std.proofs.Common.{◌≡◌, ◌++◌, take}
use Rattle.cad_views.specs.Differences.{names_of_kind}
use Rattle.cad_views.proofs.names.push_names.Given as goal

-- the names up to the place are put
abbrev pub invariant-loop-place : goal.invariant-loop-place
invariant-loop-place l = l.names.items ≡ l.fn.names.items ++ take l.place (names_of_kind l.map l.kind)
