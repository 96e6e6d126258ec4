use Rattle.std.proofs.Common.{◌≡◌, filter, not, take}
use Rattle.cad_views.specs.Land.{is_among}
use Rattle.cad_views.proofs.land.apart_from.Given as goal

-- those up to the place are listed that aren't
abbrev pub invariant-loop-index : goal.invariant-loop-index
invariant-loop-index l = l.listed.items ≡ filter (λ a. not (is_among l.ordered a)) (take l.index l.places)
