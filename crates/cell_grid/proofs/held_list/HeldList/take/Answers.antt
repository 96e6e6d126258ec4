use Rattle.std.proofs.Common.{◌≡◌, ◌∷◌, ◌∙◌, List, sym, subst}
use Rattle.std.proofs.lemmas.List.{get_or_default}
use Rattle.std.proofs.lemmas.List.Sorted.{IsPermutation-swap_remove}
use Rattle.std.specs.Prelude.{IsPermutation}
use Rattle.cell_grid.specs.declared.entry.Entry.{Entry}
use Rattle.cell_grid.proofs.held_list.HeldList.take.Goals as goal

pub returns : goal.returns
returns c =
    let xs = c.args.self.now.entries.items in
    let e = c.args.entry.now in
    let x = c.swap_remove.result in
    let place = rw c.as_slice.ensures.value at c.place_in-place.ensures in
    let is_x = c.swap_remove.ensures.value in
    let same : x ≡ e =
    is_x ∙ get_or_default xs c.place_in-place.result x e place.within ∙ place.value in
    subst (λ (y : Entry). IsPermutation xs (y ∷ c.swap_remove.new.self.items)) same
    (subst (λ (l : List Entry). IsPermutation xs (x ∷ l)) (sym c.swap_remove.ensures.items)
    (IsPermutation-swap_remove xs c.place_in-place.result x place.within is_x))
