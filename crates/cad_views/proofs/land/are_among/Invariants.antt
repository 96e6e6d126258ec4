use Rattle.std.proofs.Common.{◌≡◌, take, true}
use Rattle.std.specs.List.{list_all}
use Rattle.cad_views.specs.Land.{is_among}
use Rattle.cad_views.proofs.land.are_among.Given as goal

-- those up to the place are
abbrev pub invariant-loop-index : goal.invariant-loop-index
invariant-loop-index l = list_all (is_among l.ordered) (take l.index l.places) ≡ true
