use Rattle.std.proofs.Common.{◌∙◌, sym, ap, map, arith}
use Rattle.cad_files.specs.declared.rows.PlanRow.TheVariants as row
use Rattle.sqlite_trees.specs.View.{IsClean}
use Rattle.map_tables.specs.Tables.{with_rows}
use Rattle.map_tables.proofs.TableFacts.{gathered}
use Rattle.map_tables.proofs.reading.read_plan_rows.Goals as goal

pub returns-clause-rows : goal.returns-clause-rows
returns-clause-rows g c clean =
    let view = g.S.Store.view in
    let fourth : IsClean (view c.read_table-4.new.store) = omega (arith, c.read_table-5.ensures.quiet.clean, clean) in
    let third : IsClean (view c.read_table-3.new.store) = omega (arith, c.read_table-4.ensures.quiet.clean, fourth) in
    let second : IsClean (view c.read_table-2.new.store) = omega (arith, c.read_table-3.ensures.quiet.clean, third) in
    let first : IsClean (view c.read_table.new.store) = omega (arith, c.read_table-2.ensures.quiet.clean, second) in
    let p = c.in_ok-read_table.ensures.rows first in
    let q = c.in_ok-read_table-2.ensures.rows second in
    let r = c.in_ok-read_table-3.ensures.rows third in
    let s = c.in_ok-read_table-4.ensures.rows fourth in
    let t = c.in_ok-read_table-5.ensures.rows clean in
    let one = sym (ap (λ v. v.trees) (c.in_ok-read_table.ensures.same first)) in
    let two = one ∙ sym (ap (λ v. v.trees) (c.in_ok-read_table-2.ensures.same second)) in
    let three = two ∙ sym (ap (λ v. v.trees) (c.in_ok-read_table-3.ensures.same third)) in
    let four = three ∙ sym (ap (λ v. v.trees) (c.in_ok-read_table-4.ensures.same fourth)) in
    gathered (view c.args.store.now).trees c.read_table.new.rows c.read_table-2.new.rows c.read_table-3.new.rows c.read_table-4.new.rows c.read_table-5.new.rows p.0 q.0 r.0 s.0 t.0
    (p.1, p.2 ∙ ap (λ r. with_rows r (map (λ x. row.Source x) p.0)) c.new-rows.ensures) (ap (λ ts. ts 2) one ∙ q.1, q.2) (ap (λ ts. ts 3) two ∙ r.1, r.2) (ap (λ ts. ts 4) three ∙ s.1, s.2) (ap (λ ts. ts 5) four ∙ t.1, t.2)
