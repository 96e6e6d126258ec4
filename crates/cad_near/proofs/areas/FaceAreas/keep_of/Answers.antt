use Rattle.std.proofs.Common.{◌≡◌, ◌∙◌, length, IfSome, to_z-of_z, FitsSigned, arith}
use Rattle.std.specs.Int.{w128}
use Rattle.std.proofs.lemmas.Int.{ints}
use Rattle.std.proofs.lemmas.Option.{IfSome_then}
use Rattle.geo_exact.specs.Measure.{doubled_area}
use Rattle.cad_map.specs.Map.{rings_at, sum_of_face}
use Rattle.cad_near.specs.KeptAreas.{area_at}
use Rattle.cad_near.proofs.AreasKept.{area-of_one, holds-kept}
use Rattle.cad_valid.proofs.CallerLemmas.{rings_counted}
use Rattle.cad_near.proofs.areas.FaceAreas.keep_of.Goals as goal

pub doubled_area_of-requires-clause-there : goal.doubled_area_of-requires-clause-there
doubled_area_of-requires-clause-there g c =
    let m = g.M.MapView.map c.args.map.now in
    let told = c.has_one_ring.ensures in
    let f = c.args.face.now in
    let bs = g.M.MapView.rings c.args.map.now in
    let count : length (rings_at f bs) ≡ 1
    = rings_counted m f bs told.canonical_order ∙ told.one.0 c.if-has_one_ring.true in
    omega arith

pub returns-then-has_one_ring : goal.returns-then-has_one_ring
returns-then-has_one_ring g c =
    let m = g.M.MapView.map c.args.map.now in
    let f = c.args.face.now in
    let told = c.has_one_ring.ensures in
    let area = c.doubled_area_of.result in
    let fits : FitsSigned w128 area = omega (arith, ints) in
    let is : area ≡ sum_of_face doubled_area m f
    = c.doubled_area_of.ensures
    ∙ area-of_one m f _ told.canonical_order (told.one.0 c.if-has_one_ring.true) in
    let here : IfSome (area_at c.keep.new.self f) (λ kept. kept ≡ sum_of_face doubled_area m f)
    = IfSome_then (area_at c.keep.new.self f) (simp to_z-of_z at c.keep.ensures.here)
    (λ kept same. same ∙ is) in
    record {
      holds = holds-kept c.args.self.now c.keep.new.self m f here c.keep.ensures.elsewhere;
      gaps = c.keep.ensures.gaps;
    }
