use Rattle.std.proofs.Common.{◌≡◌, drop}
use Rattle.cad_rings.specs.Cycle.{turned}
use Rattle.cad_rings.specs.Canonical.{comes_first as comes_first_of}
use Rattle.cad_rings.proofs.canonical.is_rotation_first.Given as goal

abbrev pub invariant-loop-place : goal.invariant-loop-place
invariant-loop-place l =
    comes_first_of (turned l.fn.i l.fn.points) (turned l.fn.j l.fn.points)
    ≡ comes_first_of (drop l.place (turned l.fn.i l.fn.points)) (drop l.place (turned l.fn.j l.fn.points))
