use Rattle.std.proofs.Common.{[], arith}
use Rattle.sqlite_trees.specs.View.{IsClean}
use Rattle.map_tables.proofs.TableFacts.{on_ok}
use Rattle.map_tables.proofs.writing.fill_table.Goals as goal

pub returns-clause-put : goal.returns-clause-put
returns-clause-put g c =
    on_ok _ _ c.append_rows.result c.append_rows.ensures.put
    (λ put clean. let before : IsClean (g.S.Store.view c.args.store.now) = omega (arith, c.append_rows.ensures.quiet.clean, clean) in put clean [] (c.requires.empty before))
