use Rattle.cad_rings.specs.Surgery.{corner}
use Rattle.cad_valid.specs.Corners.{is_clear_of}
use Rattle.cad_valid.proofs.StarTests.{HavePassed}
use Rattle.cad_valid.proofs.corners.is_empty_corner.Given as goal

-- the strings so far are clear of the corner
abbrev pub invariant-loop-place : goal.invariant-loop-place
invariant-loop-place g l =
    let m = g.M.MapView.map l.map in
    HavePassed m l.at (is_clear_of m (corner l.fn.before l.at l.fn.after)) (g.M.MapView.view_strings l.map l.at) l.place
