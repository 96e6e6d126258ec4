use Rattle.std.proofs.Common.{◌≡◌, ◌≤◌, List, [], sym, ap, subst, ◌∙◌, length, slice_get, arith}
use Rattle.std.proofs.lemmas.Int.{ints}
use Rattle.std.proofs.lemmas.Option.{slice_get-get_or, same_Some}
use Rattle.std.specs.List.{AllByRecursion}
use Rattle.std.specs.Option.{option_copied}
use Rattle.geo_exact.specs.Measure.{doubled_area}
use Rattle.cad_rings.specs.Cycle.{Ring}
use Rattle.cad_map.specs.declared.boundary.Boundary.{Boundary}
use Rattle.cad_map.specs.Boundaries.{canonical_order}
use Rattle.cad_map.specs.Map.{Map, rings_at, sum_of_ring}
use Rattle.cad_map.specs.Rings.{ring_at}
use Rattle.cad_map.proofs.Boundaries.RingsOfMap.{ring-few}
use Rattle.cad_map.proofs.plain.PlainMapMapView.ring_area.Goals.{After-unwrap-ring}
use Rattle.cad_map.proofs.plain.PlainMapMapView.ring_area.Goals as goal

-- the ring that is found is the one at the place
found : (c : goal.After-unwrap-ring) → c.unwrap-ring.result.now ≡ ring_at c.args.self.now.boundaries c.args.face c.args.place
found c =
    let told = sym (ap option_copied c.unwrap-ring.ensures) ∙ c.ring_at.ensures ∙ ap (λ (bs : List Boundary). slice_get (rings_at c.args.face bs) c.args.place) (c.as_slice.ensures.value ∙ ap (λ (m : Map). m.boundaries) c.self.view_is) in
    same_Some _ _ (told ∙ slice_get-get_or (rings_at c.args.face c.args.self.now.boundaries) c.args.place [] c.requires.there)

pub area_of-requires : goal.area_of-requires
area_of-requires c =
    let m = c.args.self.now in
    let at = goal.at.area_of-requires c in
    let kept = subst (λ (m : Map). (canonical_order m.boundaries ≡ m.boundaries) × AllByRecursion (λ b. 2 ≤ length b.ring) m.boundaries) c.self.view_is c.self.invariant in
    subst (λ (ring : Ring). length ring ≤ 400000) (sym (found at.After-unwrap-ring)) (ring-few m m.boundaries c.requires.whole kept.0 kept.1 c.args.face c.args.place c.requires.there)

pub returns : goal.returns
returns c =
    let at = goal.at.returns c in
    let area = c.area_of.ensures ∙ (λ i. sum_of_ring doubled_area (c.self.view_is i) (found at.After-unwrap-ring i)) in
    omega (arith, ints, area)
