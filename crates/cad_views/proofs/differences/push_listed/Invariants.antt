use Rattle.std.proofs.Common.{◌≡◌, ◌++◌, filter, take}
use Rattle.cad_views.specs.Differences.{is_listed}
use Rattle.cad_views.proofs.differences.push_listed.Given as goal

-- those of the names up to the place are listed
abbrev pub invariant-loop-place : goal.invariant-loop-place
invariant-loop-place l = l.listed.items ≡ l.fn.listed.items ++ filter (is_listed l.old l.new l.came) (take l.place l.names)
