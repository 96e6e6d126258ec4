use Rattle.std.proofs.Common.{rules, ◌≡◌, ◌+◌, ◌-◌, ◌<◌, ◌≤◌, [], length, take, take_all, get_or, sym, subst, ap, ◌∙◌, refl, arith, length-take, eq-eqb}
use Rattle.std.proofs.lemmas.List.{take_more}
use Rattle.sqlite_trees.specs.View.{IsClean}
use Rattle.stored_rows.specs.Tables.{PutsRows}
use Rattle.stored_rows.proofs.TableLemmas.{leaves_one_less, one_count, has_its_own}
use Rattle.stored_rows.proofs.writing.clear_rows.Goals as goal

pub loop-gone-init : goal.loop-gone-init
loop-gone-init g c = (
  search rules,
  search rules,
  λ clean rows is.
      let there = c.requires.there clean in
      let whole : length rows ≤ c.args.count - 0 = omega (arith, one_count there.0 rows (sym there.1 ∙ is), there.2) in
      rw (take_all (c.args.count - 0) rows whole) (has_its_own _ c.args.tree rows is),
)

pub loop-gone-preserved : goal.loop-gone-preserved
loop-gone-preserved g c =
    let gone = c.loop-gone.gone in
    let left = c.args.count - (gone + 1) in (
      search rules,
      search rules,
      λ clean rows is.
          let before : IsClean (g.S.Store.view c.loop-gone.store) = omega (arith, c.delete_placed.ensures.quiet.clean, clean) in
          let first : IsClean (g.S.Store.view c.args.store.now) = omega (arith, c.loop-gone.invariant.1.clean, before) in
          let there = c.requires.there first in
          let was = c.loop-gone.invariant.2 before rows is in
          let count : length rows ≡ c.args.count = one_count rows there.0 (sym is ∙ there.1) ∙ there.2 in
          let within : left < length rows = omega (arith, count) in
          let next : c.args.count - gone ≡ left + 1 = omega arith in
          let shorter : length (take left rows) ≡ left = omega (arith, length-take left rows, within) in
          leaves_one_less _ (g.S.Store.view c.loop-gone.store) _ c.args.tree (c.args.count - gone) (take left rows) (get_or rows left [])
          (subst (λ rs. PutsRows (g.S.Store.view c.args.store.now) c.args.tree rs (g.S.Store.view c.loop-gone.store)) (ap (λ n. take n rows) next ∙ take_more rows left [] within) was)
          (omega (arith, shorter)) (c.in_ok-delete_placed.ensures.ok clean) (eq-eqb c.args.tree c.args.tree refl),
    )
