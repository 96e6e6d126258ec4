-- Areas that are kept beside a map on half-edges.
use Rattle.std.proofs.Common.{◌≡◌, ℤ, Option, None, sym, subst}
use Rattle.std.specs.Prelude.{IfSome}
use Rattle.geo_exact.specs.Measure.{doubled_area}
use Rattle.cad_rows.specs.declared.names.Face.{Face}
use Rattle.cad_map.specs.Map.{Map, sum_of_face}
use Rattle.cad_near.specs.KeptAreas.{KeptAreas, HoldsAreas, area_at}

-- where none is kept, each that is kept is a face's
pub none-holds : (kept : KeptAreas) (m : Map) → ((f : Face) → area_at kept f ≡ None) → HoldsAreas kept m
none-holds kept m none f =
    subst (λ (o : Option ℤ). IfSome o (λ area. area ≡ sum_of_face doubled_area m f)) (sym (none f)) tt
