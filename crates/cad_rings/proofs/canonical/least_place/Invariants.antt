use Rattle.std.proofs.Common.{◌≡◌, ◌<◌, length, drop, take}
use Rattle.cad_rings.specs.Cycle.{turned}
use Rattle.cad_rings.specs.Canonical.{least, rotations_from, least_rotation}
use Rattle.cad_rings.proofs.canonical.least_place.Given as goal

abbrev pub invariant-loop-place : goal.invariant-loop-place
invariant-loop-place l =
    (l.best < length l.fn.points)
    × (least (turned l.best l.fn.points) (rotations_from (take l.place l.fn.points) (drop l.place l.fn.points)) ≡ least_rotation l.fn.points)
