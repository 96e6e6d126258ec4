use Rattle.std.proofs.Common.{◌≡◌, ◌∙◌, ℤ, ap, sym, ◌+ℤ◌, to_z, of_z, to_z-of_z, FitsSigned, arith}
use Rattle.std.specs.Int.{w128}
use Rattle.std.proofs.lemmas.Int.{ints}
use Rattle.cad_rows.specs.declared.names.Face.TheVariants.{Parcel}
use Rattle.cad_map.specs.Map.{sum_of_face}
use Rattle.cad_map.proofs.Boundaries.Balance as sums
use Rattle.cad_map.proofs.Edits.AddedUp as added
use Rattle.cad_map.proofs.sums.sum_of.Goals as goal

pub returns-then-has_face-clause-divided : goal.returns-then-has_face-clause-divided
returns-then-has_face-clause-divided g c = λ old chain strings parcel label source valid leads.
    let m = g.M.MapView.map c.args.map.now in
    let f = g.F.SideMeasure.measure c.args.measure.now in
    let fits : FitsSigned w128 c.sum_of_rings.result = omega (arith, ints) in
    let is : to_z w128 (of_z w128 c.sum_of_rings.result) ≡ sum_of_face f m c.args.face = simp to_z-of_z c.sum_of_rings.ensures.value in
    added.divided f (g.met.F.SideMeasure.odd c.args.measure.now) old m c.args.face chain strings parcel label source valid leads ∙ ap (λ (z : ℤ). z +ℤ sum_of_face f m (Parcel parcel)) (sym is)

pub returns-then-has_face-clause-enclosed : goal.returns-then-has_face-clause-enclosed
returns-then-has_face-clause-enclosed g c = λ old points strings parcel label source valid leads.
    let m = g.M.MapView.map c.args.map.now in
    let f = g.F.SideMeasure.measure c.args.measure.now in
    let fits : FitsSigned w128 c.sum_of_rings.result = omega (arith, ints) in
    let is : to_z w128 (of_z w128 c.sum_of_rings.result) ≡ sum_of_face f m c.args.face = simp to_z-of_z c.sum_of_rings.ensures.value in
    added.enclosed f (g.met.F.SideMeasure.odd c.args.measure.now) old m c.args.face points strings parcel label source valid leads ∙ ap (λ (z : ℤ). z +ℤ sum_of_face f m (Parcel parcel)) (sym is)

pub returns-then-has_face-clause-merged : goal.returns-then-has_face-clause-merged
returns-then-has_face-clause-merged g c = λ old ended valid leads.
    let m = g.M.MapView.map c.args.map.now in
    let f = g.F.SideMeasure.measure c.args.measure.now in
    let fits : FitsSigned w128 c.sum_of_rings.result = omega (arith, ints) in
    let is : to_z w128 (of_z w128 c.sum_of_rings.result) ≡ sum_of_face f m c.args.face = simp to_z-of_z c.sum_of_rings.ensures.value in
    is ∙ added.merged f (g.met.F.SideMeasure.odd c.args.measure.now) old m c.args.face ended valid leads

pub returns-then-has_face-clause-balanced : goal.returns-then-has_face-clause-balanced
returns-then-has_face-clause-balanced g c =
    sums.balanced (g.F.SideMeasure.measure c.args.measure.now) (g.met.F.SideMeasure.odd c.args.measure.now) (g.M.MapView.map c.args.map.now) c.requires.v1 c.requires.v5

pub returns-else-has_face-clause-balanced : goal.returns-else-has_face-clause-balanced
returns-else-has_face-clause-balanced g c =
    sums.balanced (g.F.SideMeasure.measure c.args.measure.now) (g.met.F.SideMeasure.odd c.args.measure.now) (g.M.MapView.map c.args.map.now) c.requires.v1 c.requires.v5
