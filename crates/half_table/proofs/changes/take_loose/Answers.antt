use Rattle.std.proofs.Common.{ap, ◌≡◌, ◌∙◌, sym, subst, nat_eq, swap_remove, ℕ}
use Rattle.std.specs.List.{IsDistinct}
use Rattle.indexmap.specs.IndexMap.{swap_remove_entry}
use Rattle.number_table.specs.Rows.{HasNumberAt}
use Rattle.number_table.proofs.CallerLemmas.{removed-entry}
use Rattle.number_table.proofs.Found.{same-number}
use Rattle.half_table.specs.Rows.{strings}
use Rattle.half_table.proofs.Loose.{removed, removed-linked, swapped-last}
use Rattle.half_table.proofs.LooseCycles.{removed-cycle}
use Rattle.half_table.proofs.changes.take_loose.Goals as goal

pub returns : goal.returns
returns c =
    let rows = c.args.rows.now in
    let row = c.swap_remove.result in
    let there = rw c.unwrap-place.ensures at c.place_of.ensures.there in
    let has : HasNumberAt rows c.unwrap-place.result c.args.string.now = rw c.number_of.ensures at there in
    let same : row.0 ≡ c.args.string.now = same-number rows c.unwrap-place.result c.args.string.now row has c.swap_remove.ensures.row in
    let entry : swap_remove_entry (nat_eq c.args.string.now) rows ≡ swap_remove rows c.unwrap-place.result row
    = subst (λ (n : ℕ). swap_remove_entry (nat_eq n) rows ≡ swap_remove rows c.unwrap-place.result row) same
    (removed-entry rows c.unwrap-place.result row.0 row.1 c.requires.linked.distinct c.swap_remove.ensures.row) in
    let is : c.swap_remove.new.self ≡ swap_remove_entry (nat_eq c.args.string.now) rows = c.swap_remove.ensures.rows ∙ sym entry in
    let gone = rw same at c.swap_remove.ensures.updates in
    let r = removed rows c.swap_remove.new.self c.args.string.now c.requires.loose.there is gone in
    record {
      removes = r;
      cycle = removed-cycle rows _ c.args.string.now c.requires.linked c.requires.loose r;
      last = λ before ends held.
          is ∙ ap (swap_remove_entry (nat_eq c.args.string.now)) held
          ∙ swapped-last before c.args.string.now ends (subst (λ l. IsDistinct nat_eq (strings l)) held c.requires.linked.distinct);
      linked = removed-linked rows _ c.args.string.now c.requires.linked c.swap_remove.ensures.distinct c.requires.loose r;
    }
