use Rattle.std.proofs.Common.{◌∙◌, refl, sym, ap, subst, ℕ, List, map}
use Rattle.std.specs.List.{Contains}
use Rattle.std.proofs.lemmas.List.{map-id}
use Rattle.std.proofs.lemmas.List.Sorted.{Contains-permutation}
use Rattle.std.proofs.lemmas.Iterator.Consumers.{YieldsList-from_first, YieldsList-end}
use Rattle.cell_grid.specs.declared.entry.HeldString.{HeldString}
use Rattle.cad_map.proofs.CallerLemmas.{Contains-map}
use Rattle.cad_near.proofs.many.strings_near.Goals as goal

pub returns : goal.returns
returns c =
    let end = YieldsList-end (YieldsList-from_first (λ x. x) (λ w. w) c.into_iter-held-iterator.result refl) c.loop-held.yielded _ c.loop-held.yielded_by _ _ c.in-None.is c.next.ensures.steps in
    let all = sym (map-id c.loop-held.yielded) ∙ end.0 ∙ c.into_iter-held-iterator.ensures.into_iter_gives in
    let numbers = c.loop-held.invariant ∙ ap (map (λ (h : HeldString). h.string)) all in
    λ n a b holds near.
    Contains-permutation c.loop-held.numbers.items c.sort_unstable_by_key.new.self.items n c.sort_unstable_by_key.ensures.permutation
    (subst (λ (l : List ℕ). Contains l n) (sym numbers) (Contains-map (λ (h : HeldString). h.string) c.candidates-held-items.result (record { string = n; from = a; to = b }) (c.candidates-held-items.ensures.all n a b holds near)))
