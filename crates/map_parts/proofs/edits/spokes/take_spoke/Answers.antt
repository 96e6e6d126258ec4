use Rattle.std.proofs.Common.{◌≡◌, ◌∙◌, sym, subst, List, ◌∷◌, ℕ, swap_remove}
use Rattle.std.specs.Prelude.{IsPermutation, slice_get, Some}
use Rattle.std.proofs.lemmas.List.Sorted.{IsPermutation-swap_remove}
use Rattle.std.proofs.lemmas.Option.{same_Some, slice_get_within, get_or_from_slice_get}
use Rattle.key_lists.specs.Held.{items_at}
use Rattle.map_parts.specs.declared.stars.Spoke.{Spoke}
use Rattle.map_parts.specs.Stars.{spoke}
use Rattle.map_parts.proofs.edits.spokes.take_spoke.Goals as goal

pub returns-clause-here : goal.returns-clause-here
returns-clause-here c =
    let xs = items_at c.args.stars.now c.args.at.now in
    let i = c.place_of-place.result in
    let taken : Spoke = c.take.result in
    let it : Spoke = spoke c.args.half.now c.args.far.now in
    let key = c.from.ensures ∙ c.get.ensures.value in
    let found : slice_get xs i ≡ Some it =
    subst (λ (l : List Spoke). slice_get l i ≡ Some it) c.star_of.ensures c.place_of-place.ensures in
    let at : slice_get xs i ≡ Some taken =
    subst (λ (n : ℕ). slice_get (items_at c.args.stars.now n) i ≡ Some taken) key c.take.ensures.item in
    let same : taken ≡ it = same_Some taken it (sym at ∙ found) in
    let left : items_at c.take.new.self c.args.at.now ≡ swap_remove xs i taken =
    subst (λ (n : ℕ). items_at c.take.new.self n ≡ swap_remove (items_at c.args.stars.now n) i taken)
    key c.take.ensures.items in
    subst (λ (l : List Spoke). IsPermutation xs l) (λ j. same j ∷ sym left j)
    (IsPermutation-swap_remove xs i taken (slice_get_within xs i taken at)
    (sym (get_or_from_slice_get xs i taken taken at)))
