use Rattle.std.proofs.Common.{◌≡◌, drop}
use Rattle.std.specs.List.{list_all}
use Rattle.cad_valid.specs.Corners.{are_empty_beside}
use Rattle.cad_valid.proofs.corners.has_empty_corners.Given as goal

-- the strings that are left decide
abbrev pub invariant-loop-place : goal.invariant-loop-place
invariant-loop-place g l =
    let m = g.M.MapView.map l.map in
    list_all (are_empty_beside m) m.strings ≡ list_all (are_empty_beside m) (drop l.place m.strings)
