use Rattle.std.proofs.Common.{◌≡◌, [], map, take}
use Rattle.std.specs.List.{enumerate_from}
use Rattle.cad_valid.specs.Anchors.{counted_at}
use Rattle.cad_valid.proofs.anchors.anchors_of.Given as goal

-- the anchors at the positions before this one
abbrev pub invariant-loop-place : goal.invariant-loop-place
invariant-loop-place l = l.anchors.items ≡ map (counted_at []) (take l.place (enumerate_from 0 l.fn.positions))
