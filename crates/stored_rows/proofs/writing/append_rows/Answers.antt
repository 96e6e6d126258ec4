use Rattle.std.proofs.Common.{rules, ◌≡◌, ◌+◌, ◌<◌, ◌++◌, [], ◌∷◌, length, map, take, sym, subst, ap, ◌∙◌, refl, arith, length-append, length-take, append_assoc, eq-eqb}
use Rattle.std.proofs.lemmas.List.{take_more, map_push, length-map}
use Rattle.sqlite_trees.specs.View.{IsClean}
use Rattle.stored_rows.specs.Tables.{PutsRows}
use Rattle.stored_rows.proofs.TableLemmas.{puts_one_more, one_count}
use Rattle.stored_rows.proofs.writing.append_rows.Goals as goal

pub loop-item-preserved : goal.loop-item-preserved
loop-item-preserved g c =
    let i = c.loop-item.item-index in
    let items = c.args.items.now in
    let fields = g.L.Layout.fields c.args.layout.now in
    let item = c.item-item.result in
    let within : i < length items = omega arith in
    let more : take (i + 1) items ≡ take i items ++ item ∷ [] = take_more items i item within ∙ ap (λ x. take i items ++ x ∷ []) (sym c.item-item.is) in
    let mapped : map fields (take (i + 1) items) ≡ map fields (take i items) ++ fields item ∷ [] = ap (map fields) more ∙ rw map_push refl in
    let put : length (map fields (take i items)) ≡ i = length-map (take i items) fields ∙ omega (arith, length-take i items, within) in (
      omega (arith, c.loop-item.invariant.0),
      search rules,
      search rules,
      λ clean rows is.
          let before : IsClean (g.S.Store.view c.loop-item.store) = omega (arith, c.put_placed.ensures.quiet.clean, clean) in
          let first : IsClean (g.S.Store.view c.args.store.now) = omega (arith, c.loop-item.invariant.2.clean, before) in
          let there = c.requires.there first in
          let was = c.loop-item.invariant.3 before rows is in
          let count : length (rows ++ map fields (take i items)) ≡ c.args.count + i = omega (arith, length-append rows (map fields (take i items)), put, one_count there.0 rows (sym there.1 ∙ is), there.2) in
          subst (λ rs. PutsRows (g.S.Store.view c.args.store.now) c.args.tree rs (g.S.Store.view c.put_placed.new.store)) (append_assoc rows (map fields (take i items)) (fields item ∷ []) ∙ ap (λ fs. rows ++ fs) (sym mapped))
          (puts_one_more _ (g.S.Store.view c.loop-item.store) _ c.args.tree (c.loop-item.place + 1) _ (fields item) was (omega (arith, count, c.loop-item.invariant.0)) (c.in_ok-put_placed.ensures.ok clean) (eq-eqb c.args.tree c.args.tree refl)),
    )
