use Rattle.std.proofs.Common.{◌≡◌, take, None}
use Rattle.std.specs.List.{AllByRecursion}
use Rattle.cad_near.specs.KeptAreas.{area_at}
use Rattle.cad_near.proofs.areas.FaceAreas.keeps_any.Given as goal

-- none is kept of the faces so far
abbrev pub invariant-loop-face : goal.invariant-loop-face
invariant-loop-face l = AllByRecursion (λ f. area_at l.self f ≡ None) (take l.face-index l.faces)
