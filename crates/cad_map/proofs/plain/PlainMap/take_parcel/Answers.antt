use Rattle.std.proofs.Common.{sym, ap, refl, subst, List, ◌∙◌}
use Rattle.std.specs.Prelude.{◌≤◌, length, filter, not}
use Rattle.std.specs.List.{AllByRecursion}
use Rattle.cad_rows.specs.declared.names.Face.TheVariants.{Parcel}
use Rattle.cad_map.specs.declared.boundary.Boundary.{Boundary}
use Rattle.cad_map.specs.Boundaries.{canonical_order, is_face}
use Rattle.cad_map.proofs.Boundaries.OrderedParts.{canonical_order-filter}
use Rattle.cad_map.proofs.Lists.EachElement.{All-filter}
use Rattle.cad_map.proofs.plain.PlainMap.take_parcel.Goals as goal

pub invariant_of-self : goal.invariant_of-self
invariant_of-self c =
    let rest = λ (b : Boundary). not (is_face b.face (Parcel c.args.no)) in
    let left = c.drop_rings.ensures.rings in
    let bs = c.self.inside.boundaries.items in (
      ap canonical_order left ∙ canonical_order-filter rest (λ b. refl) bs ∙ ap (λ (l : List Boundary). filter rest l) c.self.invariant.0 ∙ sym left,
      subst (AllByRecursion (λ b. 2 ≤ length b.ring)) (sym left) (All-filter (λ (b : Boundary). 2 ≤ length b.ring) rest bs c.self.invariant.1),
    )
