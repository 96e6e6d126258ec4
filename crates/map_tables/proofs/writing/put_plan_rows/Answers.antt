use Rattle.std.proofs.Common.{◌∙◌, ap, subst, map, arith}
use Rattle.sqlite_trees.specs.View.{IsClean}
use Rattle.stored_rows.specs.Tables.{PutsRows}
use Rattle.map_tables.specs.Fields.{source_fields, point_fields, parcel_fields, string_fields, retired_fields}
use Rattle.map_tables.proofs.TableFacts.{on_ok, filled}
use Rattle.map_tables.proofs.writing.put_plan_rows.Goals as goal

pub returns-clause-put : goal.returns-clause-put
returns-clause-put g c =
    on_ok _ _ c.fill_table-5.result c.fill_table-5.ensures.put (λ put clean.
    let view = g.S.Store.view in
    let is = c.rows.view_is in
    let fourth : IsClean (view c.fill_table-4.new.store) = omega (arith, c.fill_table-5.ensures.quiet.clean, clean) in
    let third : IsClean (view c.fill_table-3.new.store) = omega (arith, c.fill_table-4.ensures.quiet.clean, fourth) in
    let second : IsClean (view c.fill_table-2.new.store) = omega (arith, c.fill_table-3.ensures.quiet.clean, third) in
    let first : IsClean (view c.fill_table.new.store) = omega (arith, c.fill_table-2.ensures.quiet.clean, second) in
    filled (view c.args.store.now) (view c.fill_table.new.store) (view c.fill_table-2.new.store) (view c.fill_table-3.new.store) (view c.fill_table-4.new.store) (view c.fill_table-5.new.store) c.args.rows.now
    (subst (λ xs. PutsRows (view c.args.store.now) 1 (map source_fields xs) (view c.fill_table.new.store)) (c.as_slice.ensures.value ∙ ap (λ r. r.sources) is) (c.in_ok-fill_table.ensures.put first))
    (subst (λ xs. PutsRows (view c.fill_table.new.store) 2 (map point_fields xs) (view c.fill_table-2.new.store)) (c.as_slice-2.ensures.value ∙ ap (λ r. r.points) is) (c.in_ok-fill_table-2.ensures.put second))
    (subst (λ xs. PutsRows (view c.fill_table-2.new.store) 3 (map parcel_fields xs) (view c.fill_table-3.new.store)) (c.as_slice-3.ensures.value ∙ ap (λ r. r.parcels) is) (c.in_ok-fill_table-3.ensures.put third))
    (subst (λ xs. PutsRows (view c.fill_table-3.new.store) 4 (map string_fields xs) (view c.fill_table-4.new.store)) (c.as_slice-4.ensures.value ∙ ap (λ r. r.strings) is) (c.in_ok-fill_table-4.ensures.put fourth))
    (subst (λ xs. PutsRows (view c.fill_table-4.new.store) 5 (map retired_fields xs) (view c.fill_table-5.new.store)) (c.as_slice-5.ensures.value ∙ ap (λ r. r.retired) is) (put clean)))
