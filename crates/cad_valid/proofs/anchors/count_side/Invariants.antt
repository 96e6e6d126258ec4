use Rattle.std.proofs.Common.{◌≡◌, ◌++◌, map, take, drop}
use Rattle.cad_valid.specs.Anchors.{with_one_more}
use Rattle.cad_valid.proofs.anchors.count_side.Given as goal

-- the side is counted at those before this one
abbrev pub invariant-loop-place : goal.invariant-loop-place
invariant-loop-place l =
    l.anchors ≡ map (with_one_more (l.a, l.b)) (take l.place l.fn.anchors) ++ drop l.place l.fn.anchors
