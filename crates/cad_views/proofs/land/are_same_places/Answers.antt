use Rattle.std.proofs.Common.{◌≡◌, ◌∙◌, sym, ap, Bool, List, ◌&&◌}
use Rattle.std.specs.List.{list_all}
use Rattle.std.proofs.lemmas.Slice.Eq.{slice_eq-Decides}
use Rattle.geo_exact.specs.Position.{Position}
use Rattle.cad_views.specs.Land.{are_same_places, is_among}
use Rattle.cad_views.proofs.LandFacts.{same-Decides, same-itself, same-permuted}
use Rattle.cad_views.proofs.land.are_same_places.Goals as goal
use Rattle.cad_views.proofs.land.are_same_places.Goals.{then-are_among, else-are_among}

pub returns-then-eq : goal.returns-then-eq
returns-then-eq c =
    let was = c.args.was.items in
    let same : was ≡ c.args.is.items =
    sym c.as_slice.ensures.value ∙ (slice_eq-Decides same-Decides _ _ _ c.eq.ensures).0 c.if-eq.true ∙ c.as_slice-2.ensures.value in
    sym (ap (λ (l : List Position). are_same_places was l) (sym same) ∙ same-itself was)

pub returns : goal.returns
returns c =
    let old = c.put_in_order.new.places.items in
    let new = c.put_in_order-2.new.places.items in
    let first : c.are_among.result ≡ list_all (is_among new) old =
    c.are_among.ensures ∙ (λ i. list_all (is_among (c.as_slice-3.ensures.value i)) (c.as_slice-4.ensures.value i)) in
    let both : c.if-are_among.result ≡ (list_all (is_among new) old && list_all (is_among old) new) =
    elim c.if-are_among.branch [
      | then-are_among w ↦
          let second : w.are_among-then-are_among.result ≡ list_all (is_among old) new =
          w.are_among-then-are_among.ensures ∙ (λ i. list_all (is_among (w.as_slice-then-are_among.ensures.value i)) (w.as_slice-then-are_among-2.ensures.value i)) in
          w.result-is ∙ second ∙ ap (λ (t : Bool). t && list_all (is_among old) new) (sym w.if-are_among.true ∙ first)
      | else-are_among w ↦ w.result-is ∙ w.if-are_among.false ∙ ap (λ (t : Bool). t && list_all (is_among old) new) (sym w.if-are_among.false ∙ first)
    ] in
    both ∙ same-permuted c.args.was.items c.args.is.items old new c.put_in_order.ensures.same c.put_in_order-2.ensures.same
