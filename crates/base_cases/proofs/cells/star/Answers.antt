use Rattle.std.proofs.Common.{◌≡◌, ◌∙◌, get_or, ap, arith, inl, inr}
use Rattle.std.proofs.lemmas.List.Elements.{Contains-push_cases, Contains-get_or}
use Rattle.std.proofs.lemmas.List.Quantifiers.{all_pairs_push}
use Rattle.cell_grid.specs.declared.entry.Entry.{Entry}
use Rattle.cell_grid.specs.Grid.{entry_of}
use Rattle.base_cases.proofs.cells.star.Goals as goal

pub loop-number-preserved : goal.loop-number-preserved
loop-number-preserved g c =
    let before = c.loop-number.invariant in
    let xs = c.loop-number.entries.strings in
    let x : Entry = entry_of c.string.result c.ray-a.result.0 c.ray-a.result.1 in
    let told = c.in_ok-add_string.ensures in
    record {
      below = rw told.added (λ e h. elim (Contains-push_cases xs x e h) [
        | inl early ↦ let low = before.below e early in omega arith
        | inr same ↦
            let number = ap (λ (y : Entry). y.number) same in
            omega (arith, number, c.string.ensures)
      ]);
      once = rw told.added (all_pairs_push (λ (a : Entry) (b : Entry). ¬ (a ≡ b)) xs x before.once
          (λ k d within same.
          let low = before.below (get_or xs k d) (Contains-get_or xs k d within) in
          let number = ap (λ (y : Entry). y.number) same in
          omega (arith, low, number, c.string.ensures)));
      points = told.points ∙ before.points;
    }
