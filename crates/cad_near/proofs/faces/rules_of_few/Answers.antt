use Rattle.std.proofs.Common.{◌≡◌, ◌∙◌, sym, subst, ℤ, Option, IfSome, to_z, of_z, to_z-of_z}
use Rattle.std.proofs.Common.{FitsSigned, arith}
use Rattle.std.specs.Int.{w128}
use Rattle.std.proofs.lemmas.Int.{ints}
use Rattle.geo_exact.specs.Measure.{doubled_area}
use Rattle.cad_map.specs.Map.{sum_of_face}
use Rattle.cad_near.proofs.faces.rules_of_few.Goals as goal

pub returns-in-Some : goal.returns-in-Some
returns-in-Some g c =
    let m = g.M.MapView.map c.args.map.now in
    let f = c.args.face.now in
    let kept = c.in-Some.area in
    let one = c.has_one_ring.ensures.one.0 c.if-has_one_ring.true in
    let area : kept ≡ sum_of_face doubled_area m f
    = subst (λ (some : Option ℤ). IfSome some (λ a. a ≡ sum_of_face doubled_area m f))
    (sym c.get.ensures ∙ c.in-Some.is) (c.requires.areas f) in
    let fits : FitsSigned w128 kept = omega (arith, ints) in
    let is : to_z w128 (of_z w128 kept) ≡ sum_of_face doubled_area m f = to_z-of_z fits ∙ area in
    c.rules_of_one_ring.ensures m one is
