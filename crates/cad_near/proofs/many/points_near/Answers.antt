use Rattle.std.proofs.Common.{◌∙◌, refl, sym, ap, subst, ℕ, List, map}
use Rattle.std.specs.List.{Contains}
use Rattle.std.proofs.lemmas.List.{map-id}
use Rattle.std.proofs.lemmas.Iterator.Consumers.{YieldsList-from_first, YieldsList-end}
use Rattle.cell_grid.specs.declared.entry.HeldPoint.{HeldPoint}
use Rattle.cad_map.proofs.CallerLemmas.{Contains-map}
use Rattle.cad_near.proofs.many.points_near.Goals as goal

pub returns : goal.returns
returns c =
    let end = YieldsList-end (YieldsList-from_first (λ x. x) (λ w. w) c.into_iter-held-iterator.result refl) c.loop-held.yielded _ c.loop-held.yielded_by _ _ c.in-None.is c.next.ensures.steps in
    let all = sym (map-id c.loop-held.yielded) ∙ end.0 ∙ c.into_iter-held-iterator.ensures.into_iter_gives in
    let numbers = c.loop-held.invariant ∙ ap (map (λ (h : HeldPoint). h.point)) all in
    λ n a holds near.
    subst (λ (l : List ℕ). Contains l n) (sym numbers) (Contains-map (λ (h : HeldPoint). h.point) c.point_candidates-held-items.result (record { point = n; position = a }) (c.point_candidates-held-items.ensures.all n a holds near))
